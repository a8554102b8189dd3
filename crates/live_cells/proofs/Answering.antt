-- What holds in one case of an answer.
use Rattle.std.proofs.Common.{◌≡◌, refl, Result, Ok, Err, OnOk, OnErr, IfErr, IfOk}

pub map_ok : {X E A B : Type 0} (r : Result X E) → (A → B) → OnOk r A → OnOk r B
map_ok (Ok x) f h = f h
map_ok (Err e) f h = tt

pub map_err : {X E A B : Type 0} (r : Result X E) → (A → B) → OnErr r A → OnErr r B
map_err (Ok x) f h = tt
map_err (Err e) f h = f h

pub err_is : {X E : Type 0} (a b : E) → ◌≡◌ {A = Result X E} (Err a) (Err b) → a ≡ b
err_is a b h = cc

pub if_err : {X E A : Type 0} {P : E → Type 0} (r : Result X E) → ((e : E) → r ≡ Err e → A → P e) → OnErr r A → IfErr r P
if_err (Ok x) f h = tt
if_err (Err e) f h = f e refl h

pub map_if_err : {X E : Type 0} {P Q : E → Type 0} (r : Result X E) → ((e : E) → P e → Q e) → IfErr r P → IfErr r Q
map_if_err (Ok x) f h = tt
map_if_err (Err e) f h = f e h

pub map_if_ok : {X E : Type 0} {P Q : X → Type 0} (r : Result X E) → ((x : X) → P x → Q x) → IfOk r P → IfOk r Q
map_if_ok (Ok x) f h = f x h
map_if_ok (Err e) f h = tt
