use Rattle.std.proofs.Common.{◌≡◌, ◌∙◌, List, ℕ, ◌++◌, Bool, codes, decimal, sym, ap, append_assoc}
use Rattle.cell_file.specs.Keys.{level_root}
use Rattle.cell_file.proofs.keys.level_root.Goals as goal

pub returns-then-not-plain-clause-text : goal.returns-then-not-plain-clause-text
returns-then-not-plain-clause-text c =
    let root : c.push_str.new.self.bytes ≡ c.args.root.now = c.push_str.ensures.bytes ∙ ap (λ (l : List ℕ). l ++ c.args.root.now) c.new-key.ensures in
    c.push_number.ensures.text
    ∙ ap (λ (l : List ℕ). l ++ decimal c.args.level) (c.push_str-then-not-plain.ensures.bytes ∙ ap (λ (l : List ℕ). l ++ codes "/setup0/timepoint0/s") root)
    ∙ append_assoc c.args.root.now (codes "/setup0/timepoint0/s") (decimal c.args.level)
    ∙ sym (ap (λ (b : Bool). level_root c.args.root.now b c.args.level) c.if-not-plain.true)
