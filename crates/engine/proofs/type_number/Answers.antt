use Rattle.std.proofs.Common.{ℕ, [], pos, Ok, Err, Result}
use Rattle.ground.specs.Heads.{none_lacked}
use Rattle.ground.specs.Forms.{number}
use Rattle.ground.specs.declared.place.Place.{Place}
use Rattle.ground.specs.declared.code.Code.{Code}
use Rattle.ground.specs.declared.head.Head.TheVariants.{Whole}
use Rattle.system.specs.Meaning.{Kind, Meaning, Sound, Known}
use Rattle.system.specs.Requests.{Request, Reply, build}
use Rattle.system.specs.Follows.{Follows}
use Rattle.system.specs.Replies.{coded, kind_of, Looks}
use Rattle.engine.specs.Runs.{Done, Refused, end, got_code, no_code}
use Rattle.engine.proofs.FineStates.{exact, refused}
use Rattle.engine.proofs.type_number.Goals as goal

typed_number : {S F : Type 0} (K : Kind) (meaning : S → Meaning) (asked : S → Request → Reply → S → Type 0) (rank : S → ℕ → ℕ) (ok : S → Type 0)
    (follows : (s t : S) (q : Request) (r : Reply) → asked s q r t → Follows K (meaning s) q r (meaning t))
    (fine : (s t : S) (q : Request) (r : Reply) → asked s q r t → ok t)
    (sound : (s : S) → ok s → Sound K (meaning s))
    (looks : (s : S) (c : ℕ) → ok s → Known (meaning s).state c → Looks (rank s) (meaning s) c)
    (num layer : F → ℕ) (p : Place) (s t : S) (r : Result Code F) → ok s → asked s (build Whole 0 0 0 none_lacked) (coded num layer r) t
    → elim r as (λ x. Type 0) [ Ok c ↦ Done (meaning s) [] (number p (pos 0)) (meaning t) c.0 | Err e ↦ Refused (meaning s) [] (number p (pos 0)) (num e) ]
typed_number K meaning asked rank ok follows fine sound looks num layer p s t (Ok c) g a = exact K meaning asked rank ok follows fine sound looks s t [] (number p (pos 0)) c.0 g tt tt (got_code a end)
typed_number K meaning asked rank ok follows fine sound looks num layer p s t (Err e) g a = refused K meaning asked rank ok follows fine sound looks s t [] (number p (pos 0)) p (num e) (layer e) g tt tt (no_code a)

-- src/lib.rt:14:1
pub returns : goal.returns
returns g c =
    let D = g.S.System in
    let L = g.met.S.System in
    typed_number (kind_of D.HEADS D.CLASSES) D.meaning D.asked D.rank D.ok L.told L.fine L.sound L.looked g.S.Fault.Refusal.number g.S.Fault.Refusal.layer c.args.place _ _ c.build.result c.requires c.build.ensures.answered
