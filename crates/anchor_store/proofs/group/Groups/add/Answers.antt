use Rattle.std.proofs.Common.{arith, refl}
use Rattle.anchor_store.proofs.Turned.{turned-joined}
use Rattle.anchor_store.proofs.group.Groups.add.Goals as goal

pub returns-in_ok-push-in-Some : goal.returns-in_ok-push-in-Some
returns-in_ok-push-in-Some g c =
    let groups = c.self.inside.groups in
    rw (← c.self.view_is) (turned-joined c.args.interval _ c.args.dated groups.items c.in-Some.group.now c.push.new.self (omega (arith, groups.ok.0, c.in-Some.ensures.variant.0 refl)) c.in-Some.ensures.value c.in_ok-push-in-Some.ensures.items (omega (arith, c.in-Some.group.now.ok.0)))
