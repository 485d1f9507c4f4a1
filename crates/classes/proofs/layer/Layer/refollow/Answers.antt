use Rattle.std.proofs.Common.{[]}
use Rattle.system.specs.Replies.{kind_of}
use Rattle.classes.specs.Keeping.{followed_voids}
use Rattle.classes.proofs.Answering.{unrefused}
use Rattle.classes.proofs.layer.Layer.refollow.Goals as goal

pub unwrap-self-requires : goal.unwrap-self-requires
unwrap-self-requires g c =
    let D = g.S.System in
    let s = c.args.self.now in
    let v = c.requires.met in
    unrefused c.followed.result (λ e h. followed_voids (kind_of D.HEADS D.CLASSES) (D.meaning s.below) (g.met.S.System.sound s.below c.requires.ok) s.table [] e v.0 c.requires.entries tt v.1 (rw h at c.followed.ensures) v.2 tt)
