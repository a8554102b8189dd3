-- Whole frames over caches that are alike.
use Rattle.std.proofs.Common.{◌≡◌, ◌∙◌, ◌⊎◌, inl, inr, ℕ, zero, suc, ◌<◌, List, [], ◌∷◌, ◌++◌, Option, None, Some, refl, sym, ap, subst, subst₂, append_assoc, eq-or-lt_of_le, le_of_suc-le-suc, arith}
use Rattle.std.specs.declared.result.Result.TheVariants.{Err}
use Rattle.cell_grid.specs.declared.level.Level.{Level}
use Rattle.cell_grid.specs.Pyramid.{cells_of}
use Rattle.cell_file.specs.declared.errors.AcquireErr.{AcquireErr}
use Rattle.store_calls.specs.Calls.{StoreCall, FailAlike}
use Rattle.arr_history.specs.declared.event.Event.{Event}
use Rattle.scale_pick.specs.declared.view.View.{View}
use Rattle.scale_pick.specs.Picture.{Pixels}
use Rattle.sole_cache.specs.Cached.{Cached}
use Rattle.sole_cache.specs.Acquires.{Acquires}
use Rattle.sole_eyes.specs.Steps.{FollowsStep}
use Rattle.hier_paint.specs.Sight.{opening_sight}
use Rattle.hier_paint.specs.Visits.{Visit}
use Rattle.hier_paint.specs.Frames.{IsVisited, IsVisitedTo}
use Rattle.alike_caches.specs.Alike.{AreAlike}
use Rattle.alike_frames.specs.Frames.{ShowSame, MakesFrame, FramesAreAlike}
use Rattle.alike_frames.proofs.Tandem.{AlikeLaws, Ends, Tandem}
use Rattle.alike_frames.proofs.Ways.{Spot, Refused, spots, row_spots, value_at, mask_at, IsRest, whole_way, cut_way}
use Rattle.alike_frames.proofs.Spots.{voxel_in_range}
use Rattle.alike_frames.proofs.Going.{Going}
use Rattle.alike_frames.proofs.Framing.{AreSameAt, frames_alike}
use Rattle.sole_eyes.specs.SoleEyes.{sole}

-- how a frame closes: it is painted; or a look is refused
abbrev IsClosed : List Level → Cached → List Event → List StoreCall → List StoreCall → Option AcquireErr → Option Refused → Cached → Type 0
IsClosed levels between piece left m None None d = (d ≡ between) × (left ≡ m) × (piece ≡ [])
IsClosed levels between piece left m (Some err) (Some r) d = (asked : List StoreCall) × Acquires between r.cell (Err err) piece asked d × (left ≡ asked ++ m) × (r.cell < cells_of levels)
IsClosed levels between piece left m None (Some r) d = ⊥
IsClosed levels between piece left m (Some err) None d = ⊥

-- a frame, laid out visit by visit
record IsLaid (levels : List Level) (c : Cached) (viewer : ℕ) (view : View) (picture : Pixels) (r : Option AcquireErr) (events piece : List Event) (calls m : List StoreCall) (d : Cached) : Type 0 where
  width : picture.width ≡ view.width
  height : picture.height ≡ view.height
  between : Cached
  before : List StoreCall
  left : List StoreCall
  cut : Option Refused
  visits : List Visit
  way : IsRest levels view picture cut (spots picture.width picture.height) visits
  going : Going viewer levels between left cut (opening_sight view.strategy) visits events
  follows : FollowsStep c events before between
  calls_are : calls ++ m ≡ before ++ left
  closed : IsClosed levels between piece left m r cut d

laid : (levels : List Level) (c : Cached) (viewer : ℕ) (view : View) (picture : Pixels) (r : Option AcquireErr) (events piece : List Event) (calls m : List StoreCall) (d : Cached)
    → c.levels ≡ levels → MakesFrame c viewer view picture r events piece calls d → IsLaid levels c viewer view picture r events piece calls m d
laid levels c viewer view picture None events piece calls m d same (f, none) =
    let v = subst (λ (ls : List Level). IsVisited (sole viewer ls) view picture events) same f.visited in
    record {
      width = f.width;
      height = f.height;
      between = d;
      before = calls;
      left = m;
      cut = None;
      visits = v.visits;
      way = whole_way levels view picture v.visits v.way;
      going = record { last = v.last; looks = v.looks; calls = v.calls; are = v.are; events_are = v.events_are; fate = tt };
      follows = f.follows;
      calls_are = refl;
      closed = (refl, refl, none);
    }
laid levels c viewer view picture (Some err) events piece calls m d same f =
    let v = subst (λ (ls : List Level). IsVisitedTo (sole viewer ls) view picture f.cell events) same f.visited in
    record {
      width = v.width;
      height = v.height;
      between = f.between;
      before = f.before;
      left = f.asked ++ m;
      cut = Some (record { level = v.level; cell = f.cell });
      visits = v.visits;
      way = cut_way levels view picture v.visits v.level f.cell v.way;
      going = record {
        last = v.last;
        looks = v.looks;
        calls = v.calls;
        are = v.are;
        events_are = v.events_are;
        fate = (v.due, v.loads, record { err = err; events = piece; asked = f.asked; more = m; after = d; acquires = f.acquires; calls_are = refl });
      };
      follows = f.follows;
      calls_are = ap (λ (k : List StoreCall). k ++ m) f.calls_are ∙ append_assoc f.before f.asked m;
      closed = (f.asked, f.acquires, refl, voxel_in_range levels view.affine v.level v.way.cut.x v.way.y f.cell v.way.cut.cut.at v.way.cut.cut.voxel);
    }

-- a frame that is painted isn't cut off
not_cut : (levels : List Level) (between d : Cached) (piece : List Event) (left m : List StoreCall) (r : Option AcquireErr) (cut : Option Refused) → r ≡ None → IsClosed levels between piece left m r cut d → cut ≡ None
not_cut levels between d piece left m None None none h = refl
not_cut levels between d piece left m (Some err) None none h = refl
not_cut levels between d piece left m None (Some v) none h = absurd h
not_cut levels between d piece left m (Some err) (Some v) none h = absurd (cc none)

-- both close alike
closing : (laws : AlikeLaws) (levels : List Level) (a b c' d' : Cached) (p q : List Event) (left other m n : List StoreCall) (r s : Option AcquireErr) (cut fate : Option Refused) → a.levels ≡ levels → fate ≡ cut
    → IsClosed levels a p left m r cut c' → IsClosed levels b q other n s fate d' → AreAlike a b → FailAlike left other → (s ≡ r) × (q ≡ p) × AreAlike c' d' × FailAlike m n
closing laws levels a b c' d' p q left other m n None None None None l e h g alike fail = (refl, g.2 ∙ sym h.2, subst₂ AreAlike (sym h.0) (sym g.0) alike, subst₂ FailAlike h.1 g.1 fail)
closing laws levels a b c' d' p q left other m n r s None (Some w) l e h g alike fail = absurd (cc e)
closing laws levels a b c' d' p q left other m n r s (Some v) None l e h g alike fail = absurd (cc e)
closing laws levels a b c' d' p q left other m n None s (Some v) fate l e h g alike fail = absurd h
closing laws levels a b c' d' p q left other m n r None cut (Some w) l e h g alike fail = absurd g
closing laws levels a b c' d' p q left other m n (Some err) s None fate l e h g alike fail = absurd h
closing laws levels a b c' d' p q left other m n r (Some err) cut None l e h g alike fail = absurd g
closing laws levels a b c' d' p q left other m n (Some err) (Some err') (Some v) (Some w) l e (asked, acquires, is, inside) (asked', acquires', is', inside') alike fail =
    let same : w.cell ≡ v.cell = cc e in
    let law = laws.acquires a b c' d' v.cell (Err err) (Err err') p q asked asked' m n alike (subst (λ (ls : List Level). v.cell < cells_of ls) (sym l) inside) acquires
    (subst (λ cell. Acquires b cell (Err err') q asked' d') same acquires') (subst₂ FailAlike is is' fail) in
    let err_same : err' ≡ err = cc law.0 in
    (ap Some err_same, law.1, law.2, law.3)

same_part : (p q : Pixels) (xs ys : List Spot) → AreSameAt p q (xs ++ ys) → AreSameAt p q xs × AreSameAt p q ys
same_part p q [] ys h = (tt, h)
same_part p q (s ∷ xs) ys h = let more = same_part p q xs ys h.2 in ((h.0, h.1, more.0), more.1)

same_row : (p q : Pixels) (y width x : ℕ) → x < width → AreSameAt p q (row_spots y width) → (value_at q (record { x = x; y = y }) ≡ value_at p (record { x = x; y = y })) × (mask_at q (record { x = x; y = y }) ≡ mask_at p (record { x = x; y = y }))
same_row p q y zero x lt h = absurd (omega (arith, lt))
same_row p q y (suc width) x lt h = go (eq-or-lt_of_le (le_of_suc-le-suc lt)) (same_row p q y width x)
  where
    spot : ℕ → Spot
    spot i = record { x = i; y = y }

    parts : AreSameAt p q (row_spots y width) × AreSameAt p q (spot width ∷ [])
    parts = same_part p q (row_spots y width) (spot width ∷ []) h

    go : (x ≡ width) ⊎ (x < width) → (x < width → AreSameAt p q (row_spots y width) → (value_at q (spot x) ≡ value_at p (spot x)) × (mask_at q (spot x) ≡ mask_at p (spot x)))
        → (value_at q (spot x) ≡ value_at p (spot x)) × (mask_at q (spot x) ≡ mask_at p (spot x))
    go (inl same) more = subst (λ i. (value_at q (spot i) ≡ value_at p (spot i)) × (mask_at q (spot i) ≡ mask_at p (spot i))) (sym same) (parts.1.0, parts.1.1)
    go (inr below) more = more below parts.0

same_rows : (p q : Pixels) (width height x y : ℕ) → x < width → y < height → AreSameAt p q (spots width height)
    → (value_at q (record { x = x; y = y }) ≡ value_at p (record { x = x; y = y })) × (mask_at q (record { x = x; y = y }) ≡ mask_at p (record { x = x; y = y }))
same_rows p q width zero x y in_row lt h = absurd (omega (arith, lt))
same_rows p q width (suc height) x y in_row lt h = go (eq-or-lt_of_le (le_of_suc-le-suc lt)) (same_rows p q width height x y in_row)
  where
    spot : Spot
    spot = record { x = x; y = y }

    parts : AreSameAt p q (spots width height) × AreSameAt p q (row_spots height width)
    parts = same_part p q (spots width height) (row_spots height width) h

    go : (y ≡ height) ⊎ (y < height) → (y < height → AreSameAt p q (spots width height) → (value_at q spot ≡ value_at p spot) × (mask_at q spot ≡ mask_at p spot)) → (value_at q spot ≡ value_at p spot) × (mask_at q spot ≡ mask_at p spot)
    go (inl same) more = same_row p q y width x in_row (subst (λ i. AreSameAt p q (row_spots i width)) (sym same) parts.1)
    go (inr below) more = more below parts.0

-- what is the same at all pixels
shows : (p q : Pixels) → q.width ≡ p.width → q.height ≡ p.height → AreSameAt p q (spots p.width p.height) → ShowSame p q
shows p q width height same = record {
  width = width;
  height = height;
  values = λ x y in_row in_column. (same_rows p q p.width p.height x y in_row in_column same).0;
  mask = λ x y in_row in_column. (same_rows p q p.width p.height x y in_row in_column same).1;
}

pub frames_are_alike : AlikeLaws → FramesAreAlike
frames_are_alike laws c d c' d' viewer view picture other r s e f p q k l m n alike one two fail =
    let a = laid c.levels c viewer view picture r e p k m c' refl one in
    let b = laid c.levels d viewer view other s f q l n d' alike.levels two in
    let z : Ends = record { levels = c.levels; first = a.between; second = b.between; left = a.left; other = b.left } in
    let width : other.width ≡ picture.width = b.width ∙ sym a.width in
    let height : other.height ≡ picture.height = b.height ∙ sym a.height in
    let t : Tandem z c d e f = record { alike = alike; levels = refl; calls = a.before; others = b.before; follows = a.follows; goes = b.follows; fail = subst₂ FailAlike a.calls_are b.calls_are fail } in
    let way : IsRest c.levels view other b.cut (spots picture.width picture.height) b.visits = subst₂ (λ w h. IsRest c.levels view other b.cut (spots w h) b.visits) width height b.way in
    let out = frames_alike laws z viewer view picture other a.cut b.cut (spots picture.width picture.height) c d (opening_sight view.strategy) a.visits b.visits e f a.way way a.going b.going t in
    let close = closing laws c.levels a.between b.between c' d' p q a.left b.left m n r s a.cut b.cut out.levels out.same_end a.closed b.closed out.alike out.fail in
    (close.0, out.same_events, close.1, λ painted. shows picture other width height (out.same (not_cut c.levels a.between c' p a.left m r a.cut painted a.closed)), close.2, close.3)
