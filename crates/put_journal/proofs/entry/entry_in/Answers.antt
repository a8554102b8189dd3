-- Each part is the journal's own.
use Rattle.std.proofs.Common.{◌≡◌, ◌∙◌, ◌++◌, length, refl, sym, arith}
use Rattle.put_journal.specs.Journal.{len_of, file_kind}
use Rattle.put_journal.proofs.Spelling.{never, none_some, some_same, behind_kind, behind_sum, sum_in, behind_len, behind_front_len, behind_key_len, kind_fits, sum_fits, spelled_by}
use Rattle.put_journal.proofs.entry.entry_in.Goals as goal

pub returns-in_err-front_len-clause-only : goal.returns-in_err-front_len-clause-only
returns-in_err-front_len-clause-only c b t =
    let a1 = c.in_ok-key_len.ensures.same (length b.key) (behind_key_len b t.rest) t.key_fits t.spelled in
    never (c.in_err-front_len.ensures.only (length b.front) (behind_front_len b t.rest) t.front_fits a1.1)

pub returns-in_err-len-clause-only : goal.returns-in_err-len-clause-only
returns-in_err-len-clause-only c b t =
    let a1 = c.in_ok-key_len.ensures.same (length b.key) (behind_key_len b t.rest) t.key_fits t.spelled in
    let a2 = c.in_ok-front_len.ensures.same (length b.front) (behind_front_len b t.rest) t.front_fits a1.1 in
    never (c.in_err-len.ensures.only (len_of b.len) (behind_len b t.rest) t.len_fits a2.1)

pub returns-in_err-sum-clause-only : goal.returns-in_err-sum-clause-only
returns-in_err-sum-clause-only c b t =
    let a1 = c.in_ok-key_len.ensures.same (length b.key) (behind_key_len b t.rest) t.key_fits t.spelled in
    let a2 = c.in_ok-front_len.ensures.same (length b.front) (behind_front_len b t.rest) t.front_fits a1.1 in
    let a3 = c.in_ok-len.ensures.same (len_of b.len) (behind_len b t.rest) t.len_fits a2.1 in
    never (c.in_err-sum.ensures.only (sum_in b) (behind_sum b t.rest) (sum_fits b) a3.1)

pub returns-in_err-kind-clause-only : goal.returns-in_err-kind-clause-only
returns-in_err-kind-clause-only c b t =
    let a1 = c.in_ok-key_len.ensures.same (length b.key) (behind_key_len b t.rest) t.key_fits t.spelled in
    let a2 = c.in_ok-front_len.ensures.same (length b.front) (behind_front_len b t.rest) t.front_fits a1.1 in
    let a3 = c.in_ok-len.ensures.same (len_of b.len) (behind_len b t.rest) t.len_fits a2.1 in
    let a4 = c.in_ok-sum.ensures.same (sum_in b) (behind_sum b t.rest) (sum_fits b) a3.1 in
    never (c.in_err-kind.ensures.only (file_kind b.len) (behind_kind b t.rest) (kind_fits b.len) a4.1)

pub returns-in_err-front-clause-only : goal.returns-in_err-front-clause-only
returns-in_err-front-clause-only c b t =
    let a1 = c.in_ok-key_len.ensures.same (length b.key) (behind_key_len b t.rest) t.key_fits t.spelled in
    let a2 = c.in_ok-front_len.ensures.same (length b.front) (behind_front_len b t.rest) t.front_fits a1.1 in
    let a3 = c.in_ok-len.ensures.same (len_of b.len) (behind_len b t.rest) t.len_fits a2.1 in
    let a4 = c.in_ok-sum.ensures.same (sum_in b) (behind_sum b t.rest) (sum_fits b) a3.1 in
    let a5 = c.in_ok-kind.ensures.same (file_kind b.len) (behind_kind b t.rest) (kind_fits b.len) a4.1 in
    let a6 = c.in_ok-key.ensures.same b.key (b.front ++ t.rest) (sym a1.0) a5.1 in
    never (c.in_err-front.ensures.only b.front t.rest (sym a2.0) a6.1)

pub returns-in_err-len-2-clause-only : goal.returns-in_err-len-2-clause-only
returns-in_err-len-2-clause-only c b t =
    let a1 = c.in_ok-key_len.ensures.same (length b.key) (behind_key_len b t.rest) t.key_fits t.spelled in
    let a2 = c.in_ok-front_len.ensures.same (length b.front) (behind_front_len b t.rest) t.front_fits a1.1 in
    let a3 = c.in_ok-len.ensures.same (len_of b.len) (behind_len b t.rest) t.len_fits a2.1 in
    let a4 = c.in_ok-sum.ensures.same (sum_in b) (behind_sum b t.rest) (sum_fits b) a3.1 in
    let a5 = c.in_ok-kind.ensures.same (file_kind b.len) (behind_kind b t.rest) (kind_fits b.len) a4.1 in
    never (none_some b.len (c.in_err-len-2.ensures.only b.len a5.0 a3.0))

pub returns-then-sum-sums-clause-whole : goal.returns-then-sum-sums-clause-whole
returns-then-sum-sums-clause-whole c = record {
  rest = c.in_ok-front.field-0-1.now;
  key_fits = omega (arith, c.in_ok-key.ensures.whole.1, c.in_ok-key_len.ensures.fits);
  front_fits = omega (arith, c.in_ok-front.ensures.whole.1, c.in_ok-front_len.ensures.fits);
  len_fits = omega (arith, c.in_ok-len-2.ensures.whole.1, c.in_ok-len.ensures.fits);
  spelled = spelled_by _ _ _ _ _ _ _ _ _ _ _ _ _ _ _ _
      c.in_ok-key_len.ensures.whole c.in_ok-front_len.ensures.whole c.in_ok-len.ensures.whole c.in_ok-sum.ensures.whole c.in_ok-kind.ensures.whole
      c.in_ok-key.ensures.whole.0 c.in_ok-front.ensures.whole.0 c.in_ok-key.ensures.whole.1 c.in_ok-front.ensures.whole.1
      c.in_ok-len-2.ensures.whole.1 (c.if-sum-sums.true ∙ c.sums.ensures) c.in_ok-len-2.ensures.whole.0;
}

pub returns-then-sum-sums-clause-same : goal.returns-then-sum-sums-clause-same
returns-then-sum-sums-clause-same c b t =
    let a1 = c.in_ok-key_len.ensures.same (length b.key) (behind_key_len b t.rest) t.key_fits t.spelled in
    let a2 = c.in_ok-front_len.ensures.same (length b.front) (behind_front_len b t.rest) t.front_fits a1.1 in
    let a3 = c.in_ok-len.ensures.same (len_of b.len) (behind_len b t.rest) t.len_fits a2.1 in
    let a4 = c.in_ok-sum.ensures.same (sum_in b) (behind_sum b t.rest) (sum_fits b) a3.1 in
    let a5 = c.in_ok-kind.ensures.same (file_kind b.len) (behind_kind b t.rest) (kind_fits b.len) a4.1 in
    let a6 = c.in_ok-key.ensures.same b.key (b.front ++ t.rest) (sym a1.0) a5.1 in
    let a7 = c.in_ok-front.ensures.same b.front t.rest (sym a2.0) a6.1 in
    let a8 = some_same _ _ (c.in_ok-len-2.ensures.only b.len a5.0 a3.0) in
    rw (a6.0, a7.0, a8) refl

pub returns-else-sum-sums-clause-only : goal.returns-else-sum-sums-clause-only
returns-else-sum-sums-clause-only c b t =
    let a1 = c.in_ok-key_len.ensures.same (length b.key) (behind_key_len b t.rest) t.key_fits t.spelled in
    let a2 = c.in_ok-front_len.ensures.same (length b.front) (behind_front_len b t.rest) t.front_fits a1.1 in
    let a3 = c.in_ok-len.ensures.same (len_of b.len) (behind_len b t.rest) t.len_fits a2.1 in
    let a4 = c.in_ok-sum.ensures.same (sum_in b) (behind_sum b t.rest) (sum_fits b) a3.1 in
    let a5 = c.in_ok-kind.ensures.same (file_kind b.len) (behind_kind b t.rest) (kind_fits b.len) a4.1 in
    let a6 = c.in_ok-key.ensures.same b.key (b.front ++ t.rest) (sym a1.0) a5.1 in
    let a7 = c.in_ok-front.ensures.same b.front t.rest (sym a2.0) a6.1 in
    let same : c.sums.result ≡ sum_in b = c.sums.ensures ∙ rw (a6.0, a7.0) refl in
    grind (arith, a4.0, same)
