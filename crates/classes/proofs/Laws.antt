-- What is known of a system below, and what the layer makes of an answer of it.
use Rattle.std.proofs.Common.{ℕ, List}
use Rattle.system.specs.Meaning.{Sound, Known}
use Rattle.system.specs.Requests.{Request, Reply}
use Rattle.system.specs.Follows.{Follows}
use Rattle.system.specs.Replies.{kind_of, Looks}
use Rattle.system.specs.declared.system.System.{Ghosts}
use Rattle.classes.specs.declared.entry.Entry.{Entry}
use Rattle.classes.specs.Layered.{layered, Standing}
use Rattle.classes.specs.Told.{Told}

-- the laws of a system
pub record Laws {S F M : Type 0} (D : Ghosts S F M) : Type 0 where
  pub told : (s t : S) (q : Request) (r : Reply) → D.asked s q r t → Follows (kind_of D.HEADS D.CLASSES) (D.meaning s) q r (D.meaning t)
  pub fine : (s t : S) (q : Request) (r : Reply) → D.asked s q r t → D.ok t
  pub sound : (s : S) → D.ok s → Sound (kind_of D.HEADS D.CLASSES) (D.meaning s)
  pub looked : (s : S) (c : ℕ) → D.ok s → Known (D.meaning s).state c → Looks (D.rank s) (D.meaning s) c

-- the layer went from the state s below and the entries es and ts to t, fs and us
abbrev pub Serves : {S F M : Type 0} → Ghosts S F M → S → List Entry → List (List Entry) → Request → Reply → S → List Entry → List (List Entry) → Type 0
Serves D s es ts q r t fs us =
    Follows (kind_of D.HEADS 4) (layered (D.meaning s) es ts) q r (layered (D.meaning t) fs us) × Standing (D.ok t) D.CLASSES (D.meaning t) fs us × Told D.meaning D.HEADS s es q r t fs
