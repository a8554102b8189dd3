use Rattle.std.proofs.Common.{length, ap, lit<, arith}
use Rattle.std.proofs.lemmas.Fmt.{length-decimal-le}
use Rattle.cell_file.proofs.keys.push_number.Goals as goal

pub push_str-requires : goal.push_str-requires
push_str-requires c = (lit< tt, omega (arith, c.requires.room, ap length c.format.ensures.text, length-decimal-le 6 c.args.n (omega arith) (omega (arith, c.requires.few)) (omega (arith, c.requires.few))))

pub returns-clause-len : goal.returns-clause-len
returns-clause-len c = omega (arith, c.push_str.ensures.len, ap length c.format.ensures.text, length-decimal-le 6 c.args.n (omega arith) (omega (arith, c.requires.few)) (omega (arith, c.requires.few)))
