-- The parts of a journal, taken from the front, are those of what it tells.
use Rattle.std.proofs.Common.{◌≡◌, ℕ, ◌+◌, ◌%◌, ◌^◌, ◌<◌, List, ◌++◌, length, true, false, Option, None, Some, refl, ap, lit<, arith}
use Rattle.std.specs.Option.{is_some}
use Rattle.put_journal.specs.Journal.{Before, word, byte_sum, len_of, file_kind, journal}

-- of nothing that is something all follows
pub never : {T : Type 0} → false ≡ true → T
never e = absurd (cc)

pub none_some : (x : Option ℕ) → None ≡ Some x → false ≡ true
none_some x e = ap is_some e

-- a length that was told is one
abbrev inner : Option (Option ℕ) → Option ℕ
inner None = None
inner (Some x) = x

pub some_same : (x y : Option ℕ) → Some x ≡ Some y → x ≡ y
some_same x y e = ap inner e

-- what stands behind each part
abbrev pub behind_kind : Before → List ℕ → List ℕ
behind_kind b rest = b.key ++ (b.front ++ rest)

abbrev pub behind_sum : Before → List ℕ → List ℕ
behind_sum b rest = word (file_kind b.len) ++ behind_kind b rest

abbrev pub sum_in : Before → ℕ
sum_in b = (byte_sum b.key + byte_sum b.front) % 2 ^ 64

abbrev pub behind_len : Before → List ℕ → List ℕ
behind_len b rest = word (sum_in b) ++ behind_sum b rest

abbrev pub behind_front_len : Before → List ℕ → List ℕ
behind_front_len b rest = word (len_of b.len) ++ behind_len b rest

abbrev pub behind_key_len : Before → List ℕ → List ℕ
behind_key_len b rest = word (length b.front) ++ behind_front_len b rest

pub kind_fits : (len : Option ℕ) → file_kind len < 2 ^ 64
kind_fits None = lit< tt
kind_fits (Some n) = lit< tt

pub sum_fits : (b : Before) → sum_in b < 2 ^ 64
sum_fits b = omega arith

-- parts that were taken one after another are a journal
pub spelled_by : (bytes r1 r2 r3 r4 r5 r6 rest key front : List ℕ) (kl fl n s k : ℕ) (len : Option ℕ)
    → bytes ≡ word kl ++ r1 → r1 ≡ word fl ++ r2 → r2 ≡ word n ++ r3 → r3 ≡ word s ++ r4 → r4 ≡ word k ++ r5 → r5 ≡ key ++ r6 → r6 ≡ front ++ rest
    → length key ≡ kl → length front ≡ fl → n ≡ len_of len → s ≡ (byte_sum key + byte_sum front) % 2 ^ 64 → k ≡ file_kind len
    → bytes ≡ journal (record { key = key; len = len; front = front }) rest
spelled_by bytes r1 r2 r3 r4 r5 r6 rest key front kl fl n s k len e1 e2 e3 e4 e5 e6 e7 lk lf ln ls lkind = rw (e1, e2, e3, e4, e5, e6, e7, lk, lf, ln, ls, lkind) refl
