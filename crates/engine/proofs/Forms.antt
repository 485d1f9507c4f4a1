-- The typing of every form is exact.
use Rattle.std.proofs.Common.{ℕ}
use Rattle.ground.specs.Forms.{Form, name, number, tenths, truth, fun, call, let_in, fix, if_then, empty_record, extend, select, remove}
use Rattle.system.specs.Meaning.{Kind, Meaning, Sound, Known}
use Rattle.system.specs.Requests.{Request, Reply}
use Rattle.system.specs.Follows.{Follows}
use Rattle.system.specs.Replies.{Looks}
use Rattle.engine.proofs.Typers.{Typer}
use Rattle.engine.proofs.Leaves.{on_name, on_number, on_tenths, on_truth}
use Rattle.engine.proofs.Functions.{on_fun, on_call, on_fix, on_if}
use Rattle.engine.proofs.Let.{on_let}
use Rattle.engine.proofs.Records.{on_empty, on_extend, on_select, on_remove}

module _ {S : Type 0} (K : Kind) (meaning : S → Meaning) (asked : S → Request → Reply → S → Type 0) (rank : S → ℕ → ℕ)
    (follows : (s t : S) (q : Request) (r : Reply) → asked s q r t → Follows K (meaning s) q r (meaning t))
    (sound : (s : S) → Sound K (meaning s))
    (looks : (s : S) (c : ℕ) → Known (meaning s).state c → Looks (rank s) (meaning s) c) where
  pub types : (e : Form) → Typer K meaning asked rank e
  types (name p n) = on_name K meaning asked rank follows sound p n
  types (number p z) = on_number K meaning asked rank follows sound p z
  types (tenths p z) = on_tenths K meaning asked rank follows sound p z
  types (truth p b) = on_truth K meaning asked rank follows sound p b
  types (fun p n B) = on_fun K meaning asked rank follows sound p n B (types B)
  types (call p F A) = on_call K meaning asked rank follows sound p F A (types F) (types A)
  types (let_in p n A B) = on_let K meaning asked rank follows sound looks p n A B (types A) (types B)
  types (fix p n B) = on_fix K meaning asked rank follows sound p n B (types B)
  types (if_then p C A B) = on_if K meaning asked rank follows sound p C A B (types C) (types A) (types B)
  types (empty_record p) = on_empty K meaning asked rank follows sound p
  types (extend p R l A) = on_extend K meaning asked rank follows sound p R l A (types R) (types A)
  types (select p R l) = on_select K meaning asked rank follows sound p R l (types R)
  types (remove p R l) = on_remove K meaning asked rank follows sound p R l (types R)
