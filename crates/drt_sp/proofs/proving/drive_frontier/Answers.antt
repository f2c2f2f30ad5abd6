-- A frontier that began at its opening state and was driven has an eager log.
use Rattle.std.proofs.Common.{◌≡◌, List, [], sym, ap, subst}
use Rattle.drt_refine.specs.Eager.{IsEager}
use Rattle.drt_refine.specs.Machine.{FrontierSetting, FrontierState, opening_state}
use Rattle.drt_refine.specs.View.{FrontierView, setting_of, state_of}
use Rattle.drt_refine.specs.declared.step.FrontierEntry.{FrontierEntry}
use Rattle.drt_tree.specs.Tree.{Plain}
use Rattle.drt_sp.proofs.proving.drive_frontier.Goals as goal

driven_eager : (f : Plain) (old new : FrontierView) → state_of old ≡ opening_state (setting_of f old) → setting_of f new ≡ setting_of f old
    → (IsEager (setting_of f old) old.log → IsEager (setting_of f old) new.log) → IsEager (setting_of f new) new.log
driven_eager f old new opening same_setting goes =
    let none : [] ≡ old.log = sym (ap (λ (s : FrontierState). s.log) opening) in
    subst (λ (t : FrontierSetting). IsEager t new.log) (sym same_setting) (goes (subst (λ (l : List FrontierEntry). IsEager (setting_of f old) l) none tt))

pub returns-clause-eager : goal.returns-clause-eager
returns-clause-eager c =
    driven_eager c.args.vertex.now.forest.now c.in_ok-frontier.frontier c.drive-reply.new.self c.in_ok-frontier.ensures.state c.drive-reply.ensures.drives.setting c.drive-reply.ensures.eager
