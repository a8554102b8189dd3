-- Calls of a queue, and pictures, that are the same.
use Rattle.std.proofs.Common.{◌≡◌, ◌∙◌, ℕ, zero, suc, ◌*◌, ◌<◌, ◌/◌, ◌%◌, List, [], ◌∷◌, length, slice_index, sym, ap, subst, arith, div-lt_iff_lt-mul, mod-lt}
use Rattle.std.proofs.Math.Nat.{mod-add-div'}
use Rattle.std.proofs.lemmas.Grind.{same_number_lists}
use Rattle.scale_pick.specs.Notes.{notes_of}
use Rattle.scale_pick.specs.Picture.{place}
use Rattle.fetch_queue.specs.Queue.{Queue}
use Rattle.volatile_cell.specs.Asked.{Asked, after_call, AskedFrom}
use Rattle.volatile_cell.specs.declared.queue_reply.QueueReply.TheVariants as reply
use Rattle.volatile_cell.specs.StrategyRule.{requests_for, clearing}
use Rattle.alike_frames.specs.Frames.{FramesAskAlike, PicturesAreOne}

-- the same calls lead to one queue
pub one_queue : (q r t : Queue) (calls : List Asked) → AskedFrom q calls r → AskedFrom q calls t → t ≡ r
one_queue q r t [] h g = sym g ∙ h
one_queue q r t (a ∷ calls) h g = one_queue (after_call q a.call) r t calls h.1 g.1

pub frames_ask_alike : FramesAskAlike
frames_ask_alike q r t viewer levels view events calls others one two led went =
    let rest : List Asked = requests_for view.strategy viewer levels (notes_of view.strategy events) in
    let first : AskedFrom q (clearing viewer one.cleared ∷ rest) r = subst (λ (a : List Asked). AskedFrom q a r) one.asked led in
    let second : AskedFrom q (clearing viewer two.cleared ∷ rest) t = subst (λ (a : List Asked). AskedFrom q a t) two.asked went in
    let told : reply.Cleared two.cleared ≡ reply.Cleared one.cleared = second.0 ∙ sym first.0 in
    let count : two.cleared ≡ one.cleared = cc told in
    let same : others ≡ calls = two.asked ∙ ap (λ n. clearing viewer n ∷ rest) count ∙ sym one.asked in
    (same, one_queue q r t calls led (subst (λ (a : List Asked). AskedFrom q a t) same went))

-- a place has its column and its row
split_place : (i width height : ℕ) → i < width * height → (i % width < width) × (i / width < height) × (place width (i % width) (i / width) ≡ i)
split_place i zero height lt = absurd (omega (arith, lt))
split_place i (suc w) height lt =
    let some : 0 < suc w = omega arith in
    let above : i < height * suc w = omega (arith, lt) in
    (mod-lt i some, (div-lt_iff_lt-mul {y = height} some).1 above, omega (arith, mod-add-div' i (suc w)))

one_list : (width height : ℕ) (xs ys : List ℕ) → length xs ≡ width * height → length ys ≡ width * height
    → ((x y : ℕ) → x < width → y < height → slice_index ys (place width x y) ≡ slice_index xs (place width x y)) → ys ≡ xs
one_list width height xs ys l k same = same_number_lists ys xs (k ∙ sym l) (λ i lt.
    let s = split_place i width height (subst (λ n. i < n) k lt) in
    ap (slice_index ys) (sym s.2) ∙ same (i % width) (i / width) s.0 s.1 ∙ ap (slice_index xs) s.2)

pub pictures_are_one : PicturesAreOne
pictures_are_one p q filled full same =
    let size : q.width * q.height ≡ p.width * p.height = ap (λ w. w * q.height) same.width ∙ ap (λ h. p.width * h) same.height in
    let values : q.values ≡ p.values = one_list p.width p.height p.values q.values filled.values (full.values ∙ size)
    (λ x y in_row in_column. ap (λ w. slice_index q.values (place w x y)) (sym same.width) ∙ same.values x y in_row in_column) in
    let mask : q.mask ≡ p.mask = one_list p.width p.height p.mask q.mask filled.mask (full.mask ∙ size)
    (λ x y in_row in_column. ap (λ w. slice_index q.mask (place w x y)) (sym same.width) ∙ same.mask x y in_row in_column) in
    λ i. record { width = same.width i; height = same.height i; values = values i; mask = mask i }
