use Rattle.std.proofs.Common.{◌∙◌, true, false, List, refl, sym, ap}
use Rattle.std.proofs.lemmas.Result.{on_ok_weaker}
use Rattle.cell_grid.specs.declared.level.Level.{Level}
use Rattle.cell_store.specs.declared.store.Got.TheVariants as got
use Rattle.cell_file.specs.Keys.{edited_key, base_key}
use Rattle.cell_file.proofs.AskLemmas.{decided}
use Rattle.cell_file.proofs.FetchLemmas.{if_err_weaker, gets_at, first_values, first_refusal, first_logs, first_logs_refusal, two_values, two_refusal, second_logs, second_logs_refusal}
use Rattle.cell_file.proofs.file.fetch.Goals as goal

pub returns-in-Missing-clause-values : goal.returns-in-Missing-clause-values
returns-in-Missing-clause-values g c = λ told.
    let levels = c.args.geometry.now in
    let edited = ap (λ (l : List Level). edited_key l c.args.cell) c.requires.made in
    let base = ap (λ (l : List Level). base_key l c.args.keys.now c.args.cell) c.requires.made in
    let first = gets_at _ _ _ _ _ _ got.Missing _ _ edited c.limit-limit.ensures refl c.in-Missing.ensures in
    let second = gets_at _ _ _ _ _ _ c.get_base-got.result _ _ base c.limit-limit.ensures (sym c.as_slice.ensures.value) c.get_base-got.ensures in
    on_ok_weaker c.decide.result (λ v. two_values levels c.args.keys.now c.args.cell _ _ _ c.get_base-got.result _ _ _ first second told v) c.decide.ensures.values

pub returns-in-Missing-clause-refused : goal.returns-in-Missing-clause-refused
returns-in-Missing-clause-refused g c = λ told.
    let levels = c.args.geometry.now in
    let edited = ap (λ (l : List Level). edited_key l c.args.cell) c.requires.made in
    let base = ap (λ (l : List Level). base_key l c.args.keys.now c.args.cell) c.requires.made in
    let first = gets_at _ _ _ _ _ _ got.Missing _ _ edited c.limit-limit.ensures refl c.in-Missing.ensures in
    let second = gets_at _ _ _ _ _ _ c.get_base-got.result _ _ base c.limit-limit.ensures (sym c.as_slice.ensures.value) c.get_base-got.ensures in
    if_err_weaker c.decide.result (λ err r. two_refusal levels c.args.keys.now c.args.cell _ _ _ c.get_base-got.result _ _ first second told err r) c.decide.ensures.refused

pub returns-in-Missing-clause-logged : goal.returns-in-Missing-clause-logged
returns-in-Missing-clause-logged g c = λ told_log.
    let levels = c.args.geometry.now in
    let edited = ap (λ (l : List Level). edited_key l c.args.cell) c.requires.made in
    let base = ap (λ (l : List Level). base_key l c.args.keys.now c.args.cell) c.requires.made in
    let first = gets_at _ _ _ _ _ _ got.Missing _ _ edited c.limit-limit.ensures refl c.in-Missing.ensures in
    let second = gets_at _ _ _ _ _ _ c.get_base-got.result _ _ base c.limit-limit.ensures (sym c.as_slice.ensures.value) c.get_base-got.ensures in
    on_ok_weaker c.decide.result (λ v. second_logs levels c.args.cell _ _ _ _ _ c.get_base-got.result _ _ (first.logged told_log) (second.logged (first.told_log ∙ told_log)) v) c.decide.ensures.values

pub returns-in-Missing-clause-logged_refused : goal.returns-in-Missing-clause-logged_refused
returns-in-Missing-clause-logged_refused g c = λ told_log.
    let levels = c.args.geometry.now in
    let edited = ap (λ (l : List Level). edited_key l c.args.cell) c.requires.made in
    let base = ap (λ (l : List Level). base_key l c.args.keys.now c.args.cell) c.requires.made in
    let first = gets_at _ _ _ _ _ _ got.Missing _ _ edited c.limit-limit.ensures refl c.in-Missing.ensures in
    let second = gets_at _ _ _ _ _ _ c.get_base-got.result _ _ base c.limit-limit.ensures (sym c.as_slice.ensures.value) c.get_base-got.ensures in
    if_err_weaker c.decide.result (λ err r. second_logs_refusal levels c.args.cell _ _ _ _ _ c.get_base-got.result _ err (first.logged told_log) (second.logged (first.told_log ∙ told_log)) r) c.decide.ensures.refused

pub returns-in_default-clause-values : goal.returns-in_default-clause-values
returns-in_default-clause-values g c = λ told.
    let levels = c.args.geometry.now in
    let edited = ap (λ (l : List Level). edited_key l c.args.cell) c.requires.made in
    let gets = gets_at _ _ _ _ _ _ c.get_edited.result _ _ edited c.limit-limit.ensures (sym c.as_slice-in_default.ensures.value) c.get_edited.ensures in
    on_ok_weaker c.decide-in_default.result (λ v. first_values levels c.args.keys.now c.args.cell _ c.get_edited.result _ _ (gets.gives told) c.in_default.not-Missing v) c.decide-in_default.ensures.values

pub returns-in_default-clause-refused : goal.returns-in_default-clause-refused
returns-in_default-clause-refused g c = λ told.
    let levels = c.args.geometry.now in
    let edited = ap (λ (l : List Level). edited_key l c.args.cell) c.requires.made in
    let gets = gets_at _ _ _ _ _ _ c.get_edited.result _ _ edited c.limit-limit.ensures (sym c.as_slice-in_default.ensures.value) c.get_edited.ensures in
    if_err_weaker c.decide-in_default.result (λ err r. first_refusal levels c.args.keys.now c.args.cell _ c.get_edited.result _ err (gets.gives told) r) c.decide-in_default.ensures.refused

pub returns-in_default-clause-logged : goal.returns-in_default-clause-logged
returns-in_default-clause-logged g c = λ told_log.
    let levels = c.args.geometry.now in
    let edited = ap (λ (l : List Level). edited_key l c.args.cell) c.requires.made in
    let gets = gets_at _ _ _ _ _ _ c.get_edited.result _ _ edited c.limit-limit.ensures (sym c.as_slice-in_default.ensures.value) c.get_edited.ensures in
    on_ok_weaker c.decide-in_default.result (λ v. first_logs levels c.args.cell _ _ _ (base_key levels c.args.keys.now c.args.cell) c.get_edited.result _ _ (gets.logged told_log) c.in_default.not-Missing v) c.decide-in_default.ensures.values

pub returns-in_default-clause-logged_refused : goal.returns-in_default-clause-logged_refused
returns-in_default-clause-logged_refused g c = λ told_log.
    let levels = c.args.geometry.now in
    let edited = ap (λ (l : List Level). edited_key l c.args.cell) c.requires.made in
    let gets = gets_at _ _ _ _ _ _ c.get_edited.result _ _ edited c.limit-limit.ensures (sym c.as_slice-in_default.ensures.value) c.get_edited.ensures in
    if_err_weaker c.decide-in_default.result (λ err r. first_logs_refusal levels c.args.cell _ _ _ (base_key levels c.args.keys.now c.args.cell) c.get_edited.result _ err (gets.logged told_log) r) c.decide-in_default.ensures.refused

pub returns-in-Missing-clause-asked : goal.returns-in-Missing-clause-asked
returns-in-Missing-clause-asked g c =
    let levels = c.args.geometry.now in
    let edited = ap (λ (l : List Level). edited_key l c.args.cell) c.requires.made in
    let base = ap (λ (l : List Level). base_key l c.args.keys.now c.args.cell) c.requires.made in
    let first = gets_at _ _ _ _ _ _ got.Missing _ _ edited c.limit-limit.ensures (c.in-Missing.ensures.empty (λ e. cc)) c.in-Missing.ensures in
    let second = gets_at _ _ _ _ _ _ c.get_base-got.result _ _ base c.limit-limit.ensures (sym c.as_slice.ensures.value) c.get_base-got.ensures in
    record {
      edited = false;
      answer = c.get_base-got.result;
      found = _;
      asks = (_, first, second);
      decides = decided levels c.args.cell false c.get_base-got.result _ _ c.decide.result c.decide.ensures.values c.decide.ensures.refused;
    }

pub returns-in_default-clause-asked : goal.returns-in_default-clause-asked
returns-in_default-clause-asked g c =
    let levels = c.args.geometry.now in
    let edited = ap (λ (l : List Level). edited_key l c.args.cell) c.requires.made in
    let gets = gets_at _ _ _ _ _ _ c.get_edited.result _ _ edited c.limit-limit.ensures (sym c.as_slice-in_default.ensures.value) c.get_edited.ensures in
    record {
      edited = true;
      answer = c.get_edited.result;
      found = _;
      asks = (gets, c.in_default.not-Missing);
      decides = decided levels c.args.cell true c.get_edited.result _ _ c.decide-in_default.result c.decide-in_default.ensures.values c.decide-in_default.ensures.refused;
    }
