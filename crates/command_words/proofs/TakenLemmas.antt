-- What clap's answer says of the words.
use Rattle.std.proofs.Common.{◌≡◌, ◌≢◌, List, [], ◌∷◌, Some, None, ap, refl, inl, inr, true, false, Bool, ◌&&◌}
use Rattle.clap.specs.Words.{Row, HasKind, Kinds, kind_of}
use Rattle.clap.specs.declared.error.Error.{Error}
use Rattle.clap.specs.declared.error.kind.ErrorKind.TheVariants as kind
use Rattle.command_words.specs.Command.{where_none}

pub all_taken : (kinds : Kinds) (rows found : List Row) → kinds ≡ [] → found ≡ rows → Some found ≡ where_none kinds rows
all_taken [] rows found none same = ap Some same
all_taken (k ∷ kinds) rows found none same = absurd (cc)

pub none_taken : (kinds : Kinds) (rows : List Row) (err : Error) → HasKind kinds err → kind_of err ≢ kind.OutOfMemory → None ≡ where_none kinds rows
none_taken [] rows err (inl same) differs = absurd (differs same)
none_taken [] rows err (inr among) differs = absurd among
none_taken (k ∷ kinds) rows err has differs = refl

pub first_of_both : (a b : Bool) → a && b ≡ true → a ≡ true
first_of_both true b e = refl
first_of_both false b e = absurd (cc)
