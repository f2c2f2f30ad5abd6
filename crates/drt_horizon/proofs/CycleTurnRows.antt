-- Turns of cycles, one after another, in an array.
use Rattle.std.proofs.Common.{◌≡◌, ℕ, zero, suc, ◌+◌, ◌<◌, List, [], ◌∷◌, ◌++◌, length, take, set, refl, ap, sym, arith, ◌∙◌}
use Rattle.std.proofs.lemmas.List.{append_assoc, append-nil, take_more_set}
use Rattle.drt_model.specs.Digraph.{Digraph}
use Rattle.drt_model.specs.Walk.{work, cycle_span}
use Rattle.drt_rates.specs.declared.ratio_claim.RatioClaim.{RatioClaim}
use Rattle.drt_horizon.specs.declared.cycle_turns.CycleTurn.{CycleTurn}
use Rattle.drt_horizon.specs.CycleTurns.{with_cycle_turn, cycle_turns_of}

-- A number that isn't 0 is positive.
pub positive : (n : ℕ) → (n ≡ 0 → ⊥) → 0 < n
positive zero differ = absurd (differ refl)
positive (suc n) differ = omega arith

-- The turns with one more task.
pub cycle_turns_cons : (g : Digraph) (gs : List Digraph) (p : RatioClaim) (ps : List RatioClaim) → cycle_turns_of (g ∷ gs) (p ∷ ps) ≡ with_cycle_turn g p.cycle (cycle_turns_of gs ps)
unfolding cycle_turns_of
cycle_turns_cons g gs p ps = refl

-- No tasks have no turns.
pub cycle_turns_none : (ps : List RatioClaim) → cycle_turns_of [] ps ≡ []
unfolding cycle_turns_of
cycle_turns_none ps = refl

same_cycle_turn : (x y : CycleTurn) → x.work ≡ y.work → x.span ≡ y.span → x ≡ y
same_cycle_turn x y w s = ap (λ n. record { work = n; span = x.span }) w ∙ ap (λ n. record { work = y.work; span = n }) s

-- A turn that is written at the end of those so far.
pub cycle_turn_pushed : (cycle_turns whole rest : List CycleTurn) (n : ℕ) (g : Digraph) (cycle : List ℕ) (x : CycleTurn) → n < length cycle_turns → 0 < length cycle
    → x.work ≡ work g cycle → x.span ≡ cycle_span g cycle → take n cycle_turns ++ with_cycle_turn g cycle rest ≡ whole → take (n + 1) (set cycle_turns n x) ++ rest ≡ whole
cycle_turn_pushed cycle_turns whole rest n g [] x l some w s e = absurd (omega arith)
cycle_turn_pushed cycle_turns whole rest n g (v ∷ vs) x l some w s e =
    let y : CycleTurn = record { work = work g (v ∷ vs); span = cycle_span g (v ∷ vs) } in
    ap (λ xs. xs ++ rest) (take_more_set cycle_turns n x l)
    ∙ (append_assoc (take n cycle_turns) (x ∷ []) rest
    ∙ (ap (λ z. take n cycle_turns ++ z ∷ rest) (same_cycle_turn x y w s)
    ∙ e))

-- A task without a cycle has none.
pub cycle_turn_skipped : (cycle_turns whole rest : List CycleTurn) (n : ℕ) (g : Digraph) (cycle : List ℕ) → length cycle ≡ 0
    → take n cycle_turns ++ with_cycle_turn g cycle rest ≡ whole → take n cycle_turns ++ rest ≡ whole
cycle_turn_skipped cycle_turns whole rest n g [] none e = e
cycle_turn_skipped cycle_turns whole rest n g (v ∷ vs) none e = absurd (omega arith)

-- All turns.
pub cycle_turns_all : (cycle_turns whole : List CycleTurn) (n : ℕ) (ps : List RatioClaim) → take n cycle_turns ++ cycle_turns_of [] ps ≡ whole → take n cycle_turns ≡ whole
cycle_turns_all cycle_turns whole n ps e = sym (append-nil (take n cycle_turns)) ∙ (ap (λ xs. take n cycle_turns ++ xs) (sym (cycle_turns_none ps)) ∙ e)
