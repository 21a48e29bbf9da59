-- What is promised of a bundle, by what its audit reports.
use Rattle.std.specs.Prelude.{ℕ, ◌≤◌, ◌<◌, ◌≡◌, List, Ok}
use Rattle.section.specs.declared.Refusal.{Refusal}
use Rattle.image.specs.Image.{count_of}
use Rattle.audit.specs.Promise.{Promise}
use Rattle.audit.specs.Reasons.{EntryFault}
use Rattle.audit.specs.Sound.{Sound}
use Rattle.bundle.specs.Audit.{image_in}
use Rattle.bundle.specs.Bundle.{bundle_of}
use Rattle.bundle.specs.declared.Bundle.{Bundle}

-- a bundle of n entries that passes: it is one, its fill fits, and its image is sound
pub record SoundBundle (xs : List ℕ) (fill n : ℕ) : Type 0 where
  pub bundle : Bundle
  pub is : bundle_of xs ≡ Ok bundle
  pub fills : (fill ≤ 3) × (fill ≤ bundle.table_bytes)
  pub entries : n ≡ count_of (image_in xs fill bundle)
  pub sound : Sound (image_in xs fill bundle)

-- demand 3, of the image that a bundle holds
pub record BundlePromise (xs : List ℕ) (fill : ℕ) : Type 0 where
  pub bundle : Bundle
  pub is : bundle_of xs ≡ Ok bundle
  pub promise : Promise (image_in xs fill bundle)

-- refusal r at entry k: the entry is there, and r is an entry's, as the sections of a bundle that was read pass
pub record FaultyEntry (xs : List ℕ) (fill : ℕ) (r : Refusal) (k : ℕ) : Type 0 where
  pub bundle : Bundle
  pub is : bundle_of xs ≡ Ok bundle
  pub there : k < count_of (image_in xs fill bundle)
  pub fault : EntryFault r
