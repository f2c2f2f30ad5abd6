-- What a pass holds after an answer.
use Rattle.std.proofs.Common.{ℕ, ◌<◌, Option, Some, None, refl, sym, ◌∙◌, subst, arith}
use Rattle.std.specs.Prelude.{option_map}
use Rattle.std.proofs.lemmas.Option.{none-some, same_Some}
use Rattle.drt_label.specs.Algebra.{Algebra}
use Rattle.drt_model.specs.Digraph.{out_degree}
use Rattle.drt_table.specs.Machine.{Setting}
use Rattle.drt_table.specs.declared.step.TableReply.{TableReply}
use Rattle.drt_table.specs.declared.step.TableReply.TheVariants.{Taken, Busy, Finished, Added, Dominated, OutOfRange, Closed, Spent}
use Rattle.drt_shared.specs.TableBoard.{ComesTaken, CanCount, HasMore}
use Rattle.drt_shared.specs.Passes.{HoldsAfter, Keeps, holding_by, holding_after, one_more, AreHeld, IsHolding, PassOf, SharedOf, IsNewPass}
use Rattle.drt_shared.specs.Shared.{IsFresh}
use Rattle.drt_shared.specs.Replies.{ForReply}
use Rattle.drt_shared.specs.declared.pass.Holding.{Holding}
use Rattle.drt_shared.specs.declared.reply.SharedReply.{SharedReply}
use Rattle.drt_shared.specs.declared.reply.SharedReply.TheVariants.{Step, Halted, Strange}

module _ {L : Type 0} where
  keeps_by : (r : TableReply) (old taken : Option (Holding L)) → ComesTaken r taken → HoldsAfter r old (holding_by r old taken)
  keeps_by (Taken k) old taken comes = comes
  keeps_by (Busy k) old taken comes = refl
  keeps_by Finished old taken comes = refl
  keeps_by (Added k) old taken comes = refl
  keeps_by (Dominated k) old taken comes = refl
  keeps_by OutOfRange old taken comes = refl
  keeps_by Closed old taken comes = refl
  keeps_by Spent old taken comes = refl

  pub keeps : (reply : SharedReply) (old taken : Option (Holding L)) → ForReply (λ r. ComesTaken r taken) reply → Keeps reply old (holding_after reply old taken)
  keeps (Step r) old taken comes = keeps_by r old taken comes
  keeps Halted old taken comes = refl
  keeps (Strange f) old taken comes = refl

  module _ (a : Algebra L) (t : Setting) where
    more_held : (o : Option (Holding L)) → AreHeld a t o → HasMore a t o → AreHeld a t (option_map one_more o)
    more_held None held more h e = absurd (none-some h e)
    more_held (Some g) held more h e =
        subst (λ (x : Holding L). IsHolding a t x) (same_Some (one_more g) h e)
        record { label = (held g refl).label; offered = (let lt : g.offered < out_degree t.graph (a.vertex g.label) = (more g refl).1 in omega arith) }

    held_by : (r : TableReply) (old taken : Option (Holding L)) → AreHeld a t old → AreHeld a t taken → CanCount a t r old → AreHeld a t (holding_by r old taken)
    held_by (Taken k) old taken was comes more = comes
    held_by (Busy k) old taken was comes more = was
    held_by Finished old taken was comes more = was
    held_by (Added k) old taken was comes more = more_held old was more
    held_by (Dominated k) old taken was comes more = more_held old was more
    held_by OutOfRange old taken was comes more = more_held old was more
    held_by Closed old taken was comes more = λ h e. absurd (none-some h e)
    held_by Spent old taken was comes more = was

    pub held_after : (reply : SharedReply) (old taken : Option (Holding L)) → AreHeld a t old → AreHeld a t taken → ForReply (λ r. CanCount a t r old) reply
        → AreHeld a t (holding_after reply old taken)
    held_after (Step r) old taken was comes more = held_by r old taken was comes more
    held_after Halted old taken was comes more = was
    held_after (Strange f) old taken was comes more = was

-- a pass as it is given out is one of the shared table
pub new_pass : {L : Type 0} (a : Algebra L) (s : SharedOf) (i : ℕ) (p : PassOf L) → IsFresh s.name s.setting i p → IsNewPass a s i p
new_pass a s i p f = record {
  of_table = record { name = f.name_is; setting = f.setting_is; held = λ h e. absurd (none-some h (sym f.holding ∙ e)) };
  number = f.number;
  count = f.count;
  holding = f.holding;
  halted = f.halted;
}
