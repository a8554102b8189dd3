-- What a refusal of an acquire can't be.
use Rattle.std.proofs.Common.{◌≡◌, ℕ, Bool, Some}
use Rattle.cell_store.specs.declared.store.Put.{Put}
use Rattle.cell_store.specs.declared.store.Put.TheVariants as put
use Rattle.n5_block.specs.declared.block_err.BlockErr.{BlockErr}
use Rattle.cell_file.specs.declared.errors.FetchErr.{FetchErr}
use Rattle.cell_file.specs.declared.errors.FetchErr.TheVariants as fetching
use Rattle.cell_file.specs.declared.errors.AcquireErr.TheVariants as refusal
use Rattle.sole_cache.specs.Acquires.{acquire_refusal_by, refusal_of_put}

-- a fetch is not refused for a put, nor a put for a block
pub no_write_fault : (cause : FetchErr) → refusal.WriteFault ≡ acquire_refusal_by cause → ⊥
no_write_fault fetching.ReadFault e = cc
no_write_fault (fetching.Malformed edited err) e = cc
no_write_fault (fetching.TooLong edited len limit) e = cc
no_write_fault fetching.Memory e = cc

pub no_read_fault : (answer : Put) → refusal_of_put answer ≡ Some refusal.ReadFault → ⊥
no_read_fault put.Done e = cc
no_read_fault put.Failed e = cc
no_read_fault put.NoMemory e = cc

pub not_malformed : (answer : Put) (edited : Bool) (err : BlockErr) → refusal_of_put answer ≡ Some (refusal.Malformed edited err) → ⊥
not_malformed put.Done edited err e = cc
not_malformed put.Failed edited err e = cc
not_malformed put.NoMemory edited err e = cc

pub not_too_long : (answer : Put) (edited : Bool) (len limit : ℕ) → refusal_of_put answer ≡ Some (refusal.TooLong edited len limit) → ⊥
not_too_long put.Done edited len limit e = cc
not_too_long put.Failed edited len limit e = cc
not_too_long put.NoMemory edited len limit e = cc
