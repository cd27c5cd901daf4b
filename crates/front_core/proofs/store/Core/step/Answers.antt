-- A step of the core is one more entry of its history.
use Rattle.std.proofs.Common.{◌≡◌, ℕ, List, [], ◌∷◌, ◌++◌, sym, subst}
use Rattle.world_model.specs.declared.event.Event.{Event}
use Rattle.world_model.specs.declared.event.Event.TheVariants.{Abort, Begin, Commit, Install, Lift, Mark, Next, Read, Stats, Write}
use Rattle.world_model.specs.Reply.{Reply, reply_of}
use Rattle.world_model.specs.History.{Entry, IsAnswered, MayStand, run, world_after}
use Rattle.world_model.specs.Pieces.{PieceParts}
use Rattle.world_model.specs.World.{start_world}
use Rattle.world_model.specs.Replies.{HandsBack, IsReplyTo}
use Rattle.front_core.specs.Keeps.{FitsSome, IsOfSome, KeepsSome, MayAsk, ObeysAll, ObeysWith, StandsFor}
use Rattle.front_core.specs.declared.state.State.{State}
use Rattle.front_core.proofs.Starting.{fits_event, fits_some, fits_with, keeps_some, obeys_with, some_after, some_with, stands_all, stands_with}
use Rattle.front_core.proofs.store.Core.step.Goals as goal

abbrev on : (k k' : State) (caller : ℕ) (reply : Reply) → Event → Type 0
on k k' caller reply event = ObeysAll k k' (record { caller = caller; event = event; reply = reply })

pub write-requires : goal.write-requires
write-requires c = keeps_some _ c.self.invariant

pub commit-requires : goal.commit-requires
commit-requires c = keeps_some _ c.self.invariant

pub abort-requires : goal.abort-requires
abort-requires c = keeps_some _ c.self.invariant

pub stats-requires : goal.stats-requires
stats-requires c = keeps_some _ c.self.invariant

pub invariant_of-self : goal.invariant_of-self
invariant_of-self c = some_after _ _ c.args.caller Begin (reply_of c.begin.result) c.self.invariant tt c.begin.ensures

pub invariant_of-self-in-Write : goal.invariant_of-self-in-Write
invariant_of-self-in-Write c = some_after _ _ c.args.caller (Write c.in-Write.ask) (reply_of c.write.result) c.self.invariant tt c.write.ensures

pub invariant_of-self-in-Commit : goal.invariant_of-self-in-Commit
invariant_of-self-in-Commit c = some_after _ _ c.args.caller Commit (reply_of c.commit.result) c.self.invariant tt c.commit.ensures

pub invariant_of-self-in-Abort : goal.invariant_of-self-in-Abort
invariant_of-self-in-Abort c = some_after _ _ c.args.caller Abort (reply_of c.abort.result) c.self.invariant tt c.abort.ensures

pub returns-in-Begin-clause-stands : goal.returns-in-Begin-clause-stands
returns-in-Begin-clause-stands c = λ s es st may.
    stands_all s c.args.self.now c.begin.new.self es _ may (subst (on c.args.self.now c.begin.new.self c.args.caller (reply_of c.begin.result)) (sym c.in-Begin.is) (subst (λ (k : State). ObeysAll k c.begin.new.self (record { caller = c.args.caller; event = Begin; reply = reply_of c.begin.result })) c.self.view_is c.begin.ensures)) st

pub returns-in-Next-clause-stands : goal.returns-in-Next-clause-stands
returns-in-Next-clause-stands c = λ s es st may.
    stands_all s c.args.self.now c.args.self.now es _ may (subst (on c.args.self.now c.args.self.now c.args.caller (reply_of c.next.result)) (sym c.in-Next.is) (subst (λ (k : State). ObeysAll k k (record { caller = c.args.caller; event = Next c.in-Next.kind c.in-Next.after c.in-Next.when; reply = reply_of c.next.result })) c.self.view_is c.next.ensures)) st

pub returns-in-Read-clause-stands : goal.returns-in-Read-clause-stands
returns-in-Read-clause-stands c = λ s es st may.
    stands_all s c.args.self.now c.args.self.now es _ may (subst (on c.args.self.now c.args.self.now c.args.caller (reply_of c.read.result)) (sym c.in-Read.is) (subst (λ (k : State). ObeysAll k k (record { caller = c.args.caller; event = Read c.in-Read.x c.in-Read.when; reply = reply_of c.read.result })) c.self.view_is c.read.ensures)) st

pub returns-in-Write-clause-stands : goal.returns-in-Write-clause-stands
returns-in-Write-clause-stands c = λ s es st may.
    stands_all s c.args.self.now c.write.new.self es _ may (subst (on c.args.self.now c.write.new.self c.args.caller (reply_of c.write.result)) (sym c.in-Write.is) (subst (λ (k : State). ObeysAll k c.write.new.self (record { caller = c.args.caller; event = Write c.in-Write.ask; reply = reply_of c.write.result })) c.self.view_is c.write.ensures)) st

pub returns-in-Commit-clause-stands : goal.returns-in-Commit-clause-stands
returns-in-Commit-clause-stands c = λ s es st may.
    stands_all s c.args.self.now c.commit.new.self es _ may (subst (on c.args.self.now c.commit.new.self c.args.caller (reply_of c.commit.result)) (sym c.in-Commit.is) (subst (λ (k : State). ObeysAll k c.commit.new.self (record { caller = c.args.caller; event = Commit; reply = reply_of c.commit.result })) c.self.view_is c.commit.ensures)) st

pub returns-in-Abort-clause-stands : goal.returns-in-Abort-clause-stands
returns-in-Abort-clause-stands c = λ s es st may.
    stands_all s c.args.self.now c.abort.new.self es _ may (subst (on c.args.self.now c.abort.new.self c.args.caller (reply_of c.abort.result)) (sym c.in-Abort.is) (subst (λ (k : State). ObeysAll k c.abort.new.self (record { caller = c.args.caller; event = Abort; reply = reply_of c.abort.result })) c.self.view_is c.abort.ensures)) st

pub returns-in-Mark-clause-stands : goal.returns-in-Mark-clause-stands
returns-in-Mark-clause-stands c = λ s es st may.
    stands_all s c.args.self.now c.args.self.now es _ may (subst (on c.args.self.now c.args.self.now c.args.caller (reply_of c.mark.result)) (sym c.in-Mark.is) (subst (λ (k : State). ObeysAll k k (record { caller = c.args.caller; event = Mark; reply = reply_of c.mark.result })) c.self.view_is c.mark.ensures)) st

pub returns-in-Lift-clause-stands : goal.returns-in-Lift-clause-stands
returns-in-Lift-clause-stands c = λ s es st may.
    stands_all s c.args.self.now c.args.self.now es _ may (subst (on c.args.self.now c.args.self.now c.args.caller (reply_of c.lift.result)) (sym c.in-Lift.is) (subst (λ (k : State). ObeysAll k k (record { caller = c.args.caller; event = Lift c.in-Lift.x; reply = reply_of c.lift.result })) c.self.view_is c.lift.ensures)) st

pub returns-in-Stats-clause-stands : goal.returns-in-Stats-clause-stands
returns-in-Stats-clause-stands c = λ s es st may.
    stands_all s c.args.self.now c.args.self.now es _ may (subst (on c.args.self.now c.args.self.now c.args.caller (reply_of c.stats.result)) (sym c.in-Stats.is) (subst (λ (k : State). ObeysAll k k (record { caller = c.args.caller; event = Stats; reply = reply_of c.stats.result })) c.self.view_is c.stats.ensures)) st

-- AN INSTALLATION

-- of some history that the core stands for
some : (k : State) (piece : PieceParts) (e : Event) → e ≡ Install piece → MayAsk k e → FitsSome k piece
some k piece e is may = fits_some k piece (subst (MayAsk k) is may)

pub install-requires : goal.install-requires
install-requires c = subst (λ (k : State). FitsSome k c.in-Install.piece) (sym c.self.view_is) (some c.args.self.now c.in-Install.piece c.args.event c.in-Install.is c.requires)

of_some : (k : State) (piece : PieceParts) (e : Event) → e ≡ Install piece → MayAsk k e → IsOfSome k piece
of_some k piece e is may = subst (MayAsk k) is may

pub invariant_of-self-in-Install : goal.invariant_of-self-in-Install
invariant_of-self-in-Install c =
    let of = subst (λ (k : State). IsOfSome k c.in-Install.piece) (sym c.self.view_is) (of_some c.args.self.now c.in-Install.piece c.args.event c.in-Install.is c.requires) in
    some_with _ _ c.args.caller c.in-Install.piece (reply_of c.install.result) of c.install.ensures.obeys

pub returns-in-Install-clause-answered : goal.returns-in-Install-clause-answered
returns-in-Install-clause-answered c = λ s es st may.
    let obeys = subst (λ (k : State). ObeysWith c.in-Install.piece k c.install.new.self (record { caller = c.args.caller; event = Install c.in-Install.piece; reply = reply_of c.install.result })) c.self.view_is c.install.ensures.obeys in
    subst (λ (e : Event). IsAnswered (run (start_world s) es) (record { caller = c.args.caller; event = e; reply = reply_of c.install.result })) (sym c.in-Install.is)
    (obeys_with s c.args.self.now c.install.new.self es c.args.caller c.in-Install.piece (reply_of c.install.result) (subst (MayStand es) c.in-Install.is may) obeys st).answered

pub returns-in-Install-clause-stands : goal.returns-in-Install-clause-stands
returns-in-Install-clause-stands c = λ s es st may.
    let obeys = subst (λ (k : State). ObeysWith c.in-Install.piece k c.install.new.self (record { caller = c.args.caller; event = Install c.in-Install.piece; reply = reply_of c.install.result })) c.self.view_is c.install.ensures.obeys in
    subst (λ (e : Event). StandsFor s c.install.new.self (es ++ record { caller = c.args.caller; event = e; reply = reply_of c.install.result } ∷ [])) (sym c.in-Install.is)
    (stands_with s c.args.self.now c.install.new.self es c.args.caller c.in-Install.piece (reply_of c.install.result) (subst (MayStand es) c.in-Install.is may) obeys st)

pub returns-in-Install-clause-fits : goal.returns-in-Install-clause-fits
returns-in-Install-clause-fits c =
    let obeys = subst (λ (k : State). ObeysWith c.in-Install.piece k c.install.new.self (record { caller = c.args.caller; event = Install c.in-Install.piece; reply = reply_of c.install.result })) c.self.view_is c.install.ensures.obeys in
    subst (λ (e : Event). IsReplyTo e (reply_of c.install.result)) (sym c.in-Install.is)
    (fits_with c.args.self.now c.install.new.self c.args.caller c.in-Install.piece (reply_of c.install.result) (some c.args.self.now c.in-Install.piece c.args.event c.in-Install.is c.requires) obeys)

pub returns-in-Install-clause-hands_back : goal.returns-in-Install-clause-hands_back
returns-in-Install-clause-hands_back c = subst (λ (e : Event). HandsBack e c.install.result) (sym c.in-Install.is) c.install.ensures.back

pub returns-in-Next-clause-fits : goal.returns-in-Next-clause-fits
returns-in-Next-clause-fits c =
    fits_event c.args.self.now c.args.self.now c.args.caller c.args.event (reply_of c.next.result) (subst KeepsSome c.self.view_is (keeps_some _ c.self.invariant))
    (subst (on c.args.self.now c.args.self.now c.args.caller (reply_of c.next.result)) (sym c.in-Next.is) (subst (λ (k : State). ObeysAll k k (record { caller = c.args.caller; event = Next c.in-Next.kind c.in-Next.after c.in-Next.when; reply = reply_of c.next.result })) c.self.view_is c.next.ensures))

pub returns-in-Read-clause-fits : goal.returns-in-Read-clause-fits
returns-in-Read-clause-fits c =
    fits_event c.args.self.now c.args.self.now c.args.caller c.args.event (reply_of c.read.result) (subst KeepsSome c.self.view_is (keeps_some _ c.self.invariant))
    (subst (on c.args.self.now c.args.self.now c.args.caller (reply_of c.read.result)) (sym c.in-Read.is) (subst (λ (k : State). ObeysAll k k (record { caller = c.args.caller; event = Read c.in-Read.x c.in-Read.when; reply = reply_of c.read.result })) c.self.view_is c.read.ensures))

pub returns-in-Write-clause-fits : goal.returns-in-Write-clause-fits
returns-in-Write-clause-fits c =
    fits_event c.args.self.now c.write.new.self c.args.caller c.args.event (reply_of c.write.result) (subst KeepsSome c.self.view_is (keeps_some _ c.self.invariant))
    (subst (on c.args.self.now c.write.new.self c.args.caller (reply_of c.write.result)) (sym c.in-Write.is) (subst (λ (k : State). ObeysAll k c.write.new.self (record { caller = c.args.caller; event = Write c.in-Write.ask; reply = reply_of c.write.result })) c.self.view_is c.write.ensures))

pub returns-in-Begin-clause-hands_back : goal.returns-in-Begin-clause-hands_back
returns-in-Begin-clause-hands_back c = subst (λ (e : Event). HandsBack e c.begin.result) (sym c.in-Begin.is) tt

pub returns-in-Next-clause-hands_back : goal.returns-in-Next-clause-hands_back
returns-in-Next-clause-hands_back c = subst (λ (e : Event). HandsBack e c.next.result) (sym c.in-Next.is) tt

pub returns-in-Read-clause-hands_back : goal.returns-in-Read-clause-hands_back
returns-in-Read-clause-hands_back c = subst (λ (e : Event). HandsBack e c.read.result) (sym c.in-Read.is) tt

pub returns-in-Write-clause-hands_back : goal.returns-in-Write-clause-hands_back
returns-in-Write-clause-hands_back c = subst (λ (e : Event). HandsBack e c.write.result) (sym c.in-Write.is) tt

pub returns-in-Commit-clause-hands_back : goal.returns-in-Commit-clause-hands_back
returns-in-Commit-clause-hands_back c = subst (λ (e : Event). HandsBack e c.commit.result) (sym c.in-Commit.is) tt

pub returns-in-Abort-clause-hands_back : goal.returns-in-Abort-clause-hands_back
returns-in-Abort-clause-hands_back c = subst (λ (e : Event). HandsBack e c.abort.result) (sym c.in-Abort.is) tt

pub returns-in-Mark-clause-hands_back : goal.returns-in-Mark-clause-hands_back
returns-in-Mark-clause-hands_back c = subst (λ (e : Event). HandsBack e c.mark.result) (sym c.in-Mark.is) tt

pub returns-in-Lift-clause-hands_back : goal.returns-in-Lift-clause-hands_back
returns-in-Lift-clause-hands_back c = subst (λ (e : Event). HandsBack e c.lift.result) (sym c.in-Lift.is) tt

pub returns-in-Stats-clause-hands_back : goal.returns-in-Stats-clause-hands_back
returns-in-Stats-clause-hands_back c = subst (λ (e : Event). HandsBack e c.stats.result) (sym c.in-Stats.is) tt

pub returns-in-Lift-clause-fits : goal.returns-in-Lift-clause-fits
returns-in-Lift-clause-fits c =
    fits_event c.args.self.now c.args.self.now c.args.caller c.args.event (reply_of c.lift.result) (subst KeepsSome c.self.view_is (keeps_some _ c.self.invariant))
    (subst (on c.args.self.now c.args.self.now c.args.caller (reply_of c.lift.result)) (sym c.in-Lift.is) (subst (λ (k : State). ObeysAll k k (record { caller = c.args.caller; event = Lift c.in-Lift.x; reply = reply_of c.lift.result })) c.self.view_is c.lift.ensures))
