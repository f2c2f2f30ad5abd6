-- Attempts whose parts are put together.
use Rattle.std.proofs.Common.{◌≡◌, ℕ, ◌<◌, ◌≤◌, List, ◌++◌, All, None, length, take, drop, sym, subst, arith}
use Rattle.std.specs.Prelude.{IfOk, IfSome}
use Rattle.drt_model.specs.Digraph.{Digraph}
use Rattle.drt_claims.specs.Ranges.{IsCounted}
use Rattle.drt_claims.specs.declared.evidence.Item.{Item}
use Rattle.drt_refine.specs.Eager.{IsEager}
use Rattle.drt_refine.specs.View.{FrontierView, IsFrontier, setting_of}
use Rattle.drt_tree.specs.Tree.{Plain}
use Rattle.drt_sp.specs.Attempts.{IsAttempt, Table}
use Rattle.drt_sp.specs.Joints.{AreJoints, IsJoint, IsJointOf, KeepAttempts}
use Rattle.drt_sp.specs.Parts.{AreEndOf, HasParts}
use Rattle.drt_sp.specs.declared.attempts.Attempt.{Attempt}
use Rattle.drt_sp.specs.declared.joints.Joint.{Joint}
use Rattle.drt_sp.proofs.Attempted.{deadline_small}
use Rattle.std.proofs.lemmas.Grind.{common_steps}
use Rattle.std.proofs.lemmas.Result.{IfOk-weaker}
use Rattle.drt_model.specs.Numbers.{most_time}

-- what is written into a whole list is the list
pub written_whole : {A : Type 0} (new old : List A) (n : ℕ) → length new ≡ n → length old ≡ n → take n (new ++ drop (length new) old) ≡ new
written_whole new old n p q = grind (arith, common_steps)

module _ (f : Plain) (roots : List ℕ) (g : Digraph) where
  -- Each is one of before, or what is put together of it.
  pub joints_kept : (old new : List Joint) → KeepAttempts old new → AreJoints f roots g old → All (IsJoint f) new → AreJoints f roots g new
  joints_kept old new kept are is i d lt =
      let lt' : i < length old = omega (arith, kept.count) in
      record { joint = is i d lt; attempt = subst (IsAttempt f roots g) (sym (kept.same i d lt')) (are i d lt').attempt }

  -- an attempt with its parts, of which nothing is put together
  pub joint_of : (a : Attempt) (table : Table) (j : Joint) → IsAttempt f roots g a → HasParts f a.frontier.wcet a.frontier.deadline a.frontier.combinations table.items
      → j.attempt ≡ a → j.parts ≡ table → IfOk j.items (λ some. some ≡ None) → IsJointOf f roots g j
  joint_of a table j is parts same own none = let v : FrontierView = j.attempt.frontier in record {
    attempt = subst (IsAttempt f roots g) (sym same) is;
    joint = record {
      frontier = subst (λ (x : Attempt). IsFrontier f x.frontier) (sym same) is.spent.frontier;
      eager = subst (λ (x : Attempt). IsEager (setting_of f x.frontier) x.frontier.log) (sym same) is.spent.eager;
      deadline = subst (λ (x : Attempt). x.frontier.deadline ≤ most_time) (sym same) (deadline_small f roots g a is);
      parts = subst (λ (x : Attempt). HasParts f x.frontier.wcet x.frontier.deadline x.frontier.combinations j.parts.items) (sym same)
          (subst (λ (t : Table). HasParts f a.frontier.wcet a.frontier.deadline a.frontier.combinations t.items) (sym own) parts);
      items =
          let AreWhole : List Item → Type 0 = λ items. AreEndOf f v.wcet v.deadline v.roots items × IsCounted items in
          IfOk-weaker j.items (λ some. some ≡ None) (λ some. IfSome some AreWhole) (λ some e. subst (λ o. IfSome o AreWhole) (sym e) tt) none;
    };
  }
