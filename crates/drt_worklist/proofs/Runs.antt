-- What holds after a run, and runs one after another.
use Rattle.std.proofs.Common.{◌≡◌, List, [], ◌∷◌, ◌++◌, refl, sym, ap, ◌∙◌, append_assoc}
use Rattle.std.proofs.lemmas.List.{append-nil}
use Rattle.drt_worklist.specs.Runs.{replay_from, AllAlong, IsRunFrom}

module _ {S E : Type 0} (next : S → E → S) where
  pub replay_join : (es fs : List E) (s : S) → replay_from next s (es ++ fs) ≡ replay_from next (replay_from next s es) fs
  replay_join [] fs s = refl
  replay_join (e ∷ es) fs s = replay_join es fs (next s e)

  pub along_join : (P : S → E → Type 0) (es fs : List E) (s : S) → AllAlong next P s es → AllAlong next P (replay_from next s es) fs → AllAlong next P s (es ++ fs)
  along_join P [] fs s h g = g
  along_join P (e ∷ es) fs s h g = (h.0, along_join P es fs (next s e) h.1 g)

  -- what each entry keeps, whether it meets its conditions or not
  pub replay_keeps : (P : S → Type 0) → ((s : S) (e : E) → P s → P (next s e)) → (es : List E) (s : S) → P s → P (replay_from next s es)
  replay_keeps P keeps [] s h = h
  replay_keeps P keeps (e ∷ es) s h = replay_keeps P keeps es (next s e) (keeps s e h)

  module _ (Can : S → E → Type 0) (log : S → List E) where
    pub run_join : (es fs : List E) (s : S) → IsRunFrom next Can log s es → IsRunFrom next Can log (replay_from next s es) fs → IsRunFrom next Can log s (es ++ fs)
    run_join [] fs s run more = more
    run_join (e ∷ es) fs s run more = (run.0, run.1, run_join es fs (next s e) run.2 more)

    -- a run adds itself to the log
    pub run_log : (es : List E) (s : S) → IsRunFrom next Can log s es → log (replay_from next s es) ≡ log s ++ es
    run_log [] s run = sym (append-nil (log s))
    run_log (e ∷ es) s run = run_log es (next s e) run.2 ∙ (ap (λ xs. xs ++ es) run.1 ∙ append_assoc (log s) (e ∷ []) es)

    -- what each step keeps holds after a run
    pub run_keeps : (P : S → Type 0) → ((s : S) (e : E) → Can s e → P s → P (next s e)) → (es : List E) (s : S) → P s → IsRunFrom next Can log s es → P (replay_from next s es)
    run_keeps P keeps [] s h run = h
    run_keeps P keeps (e ∷ es) s h run = run_keeps P keeps es (next s e) (keeps s e run.0 h) run.2
