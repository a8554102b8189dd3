use Rattle.std.proofs.Common.{[], ◌∷◌, slice_index, refl}
use Rattle.arr_history.specs.declared.event.Event.TheVariants.{Read}
use Rattle.cell_grid.specs.Pyramid.{voxels_of}
use Rattle.whole_affine.specs.Offsets.{offset_ahead, place_ahead}
use Rattle.sole_cache.specs.Acquires.{Quiet}
use Rattle.sole_eyes.proofs.Following.{eyes_read}
use Rattle.sole_eyes.proofs.Showing.{place_below, eyes_along}
use Rattle.sole_eyes.proofs.sole_eyes.SoleEyesEyes.show.Goals as goal

pub returns-clause-shown : goal.returns-clause-shown
returns-clause-shown g c =
    let cache = c.args.self.now.cache.now in
    let cell = c.args.handle.now.cell in
    let walk = c.args.walk in
    let frame = c.frame.result.now in
    record {
      number = λ k. slice_index frame (place_ahead walk k);
      led = (
        refl,
        refl,
        refl,
        eyes_along cache cell walk (λ k. slice_index frame (place_ahead walk k)) c.args.run.columns (λ k lt.
            let below = place_below (offset_ahead walk k) (voxels_of cache.levels cell) (c.requires.offsets k lt) in
            let quiet : Quiet cache (Read 0 cell (place_ahead walk k) (slice_index frame (place_ahead walk k)) ∷ []) cache = record { runs = c.frame.ensures.runs (place_ahead walk k) below; shown = refl; valid = c.frame.ensures.valid } in
            eyes_read cache cache cell (place_ahead walk k) (slice_index frame (place_ahead walk k)) quiet),
        refl,
      );
      shows = c.show.ensures;
    }
