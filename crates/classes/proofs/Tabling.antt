-- What each step of a table leaves in its places.
use Rattle.std.proofs.Common.{ℕ, ◌+◌, ◌-◌, ◌<◌, List, set, drop, replicate, sym, ap, ◌∙◌, arith}
use Rattle.std.proofs.Math.ListN.{length-set}
use Rattle.std.proofs.lemmas.List.{drop-replicate, drop-set-lt, drop-drop}
use Rattle.classes.specs.declared.entry.Entry.{Entry}
use Rattle.classes.specs.Entries.{blank}
use Rattle.classes.specs.Padding.{Spare}

-- an entry is changed
pub spare_set : (n i : ℕ) (xs : List Entry) (y : Entry) → i < n → Spare n xs → Spare n (set xs i y)
spare_set n i xs y p h = (h.0, length-set xs i y ∙ h.1, drop-set-lt n xs i y p ∙ h.2)

-- or there is one more
pub spare_more : (n : ℕ) (xs : List Entry) (y : Entry) → n < 128 → Spare n xs → Spare (n + 1) (set xs n y)
spare_more n xs y p h = (
  omega (arith, p),
  length-set xs n y ∙ h.1,
  drop-set-lt (n + 1) xs n y (omega arith) ∙ sym (drop-drop 1 n xs) ∙ ap (drop 1) h.2 ∙ drop-replicate 1 (128 - n) blank ∙ ap (λ k. replicate k blank) (omega (arith, p)),
)
