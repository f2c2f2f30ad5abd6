-- What `edf` says of an accepted set, and what it doesn't.
use Rattle.std.proofs.Common.{◌≡◌, ◌⊎◌, ℕ, ◌<◌, ◌≤◌, List, All, Result, Ok, Err, IfOk, inl, inr, refl, sym, ap, ◌∙◌, subst, arith}
use Rattle.std.proofs.lemmas.List.Elements.{All-map}
use Rattle.std.proofs.lemmas.Option.{slice_get_within, get_or_from_slice_get}
use Rattle.drt_model.specs.Contents.{Contents}
use Rattle.drt_model.specs.Constrained.{AreConstrained}
use Rattle.drt_model.specs.Digraph.{IsSoundGraph, digraph_of}
use Rattle.drt_model.specs.Limits.{IsTaskSet}
use Rattle.drt_model.specs.Utilisation.{rate}
use Rattle.drt_model.specs.declared.tasks.Task.{Task}
use Rattle.drt_graph.proofs.Soundness.{all_sound}
use Rattle.drt_horizon.specs.declared.answers.Beyond.{Beyond}
use Rattle.drt_horizon.specs.declared.answers.Beyond.TheVariants.{TooFine, TooFar}
use Rattle.drt_claims.specs.Claims.{graphs_of}
use Rattle.drt_claims.specs.Ranges.{IsEvidenceInRange}
use Rattle.drt_evidence.specs.Text.{text}
use Rattle.drt_claims.specs.declared.evidence.Evidence.{Evidence}
use Rattle.drt_claims.specs.declared.evidence.Evidence.TheVariants.{EdfYes, EdfNo, UtilisationOne, FixedYes, FixedStates, FixedNo, Undecided}
use Rattle.drt_edf.specs.Answers.{IsBeyond, IsEdfVerdict, IsOther, IsPlanned, IsEdfUndecided}
use Rattle.drt_claims.specs.Rates.{IsAtOne, Rates}
use Rattle.drt_edf.specs.Spent.{IsEnoughForEdf, table_need}
use Rattle.drt_trails.specs.declared.EdfTrail.{EdfTrail}
use Rattle.drt_trails.specs.declared.EdfTrail.TheVariants.{Table, Overload}
use Rattle.drt_edf.proofs.Unique.{rates_same, horizon_same}
use Rattle.drt_command_files.specs.Dossiers.{evidence_status}
use Rattle.drt_command.specs.declared.report.Report.{Report}
use Rattle.drt_command.specs.declared.report.Unmade.{Unmade}
use Rattle.drt_command_files.specs.TaskFiles.{IsAccepted}
use Rattle.drt_command_edf.specs.Besides.{Besides, IsEdfNoText, IsEdfYesText, IsOneText, IsUndecidedText, edf_trail_of, under_edf}
use Rattle.drt_command_edf.specs.Edf.{EdfEnds}
use Rattle.drt_outcome.specs.declared.outcome.Trail.{Trail}
use Rattle.drt_outcome.specs.declared.outcome.Trail.TheVariants as trails

module _ (version : ℕ) (tasks : List Task) (limits : IsTaskSet version tasks) where
  sound : All IsSoundGraph (graphs_of tasks)
  sound = All-map IsSoundGraph digraph_of tasks (all_sound version tasks limits)

  rate_same : (r s : Rates tasks) → rate r.scale r.ratios ≡ rate s.scale s.ratios
  rate_same r s =
      let e = rates_same tasks sound r s in
      ap (λ n. rate n r.ratios) e.1 ∙ ap (λ rs. rate s.scale rs) e.0

  -- The numbers are out of reach in one way.
  pub beyond_one : (b c : Beyond) → IsBeyond tasks b → IsBeyond tasks c → b ≡ c
  beyond_one TooFine TooFine p q = refl
  beyond_one TooFine TooFar p q = absurd (let e = rates_same tasks sound p.0 q.1.rates in omega (arith, e.1, p.1, q.1.fine))
  beyond_one TooFar TooFine p q = absurd (let e = rates_same tasks sound q.0 p.1.rates in omega (arith, e.1, q.1, p.1.fine))
  beyond_one TooFar TooFar p q = refl

  -- A utilisation of one isn't out of reach.
  pub one_near : (b : Beyond) → IsAtOne tasks → IsBeyond tasks b → ⊥
  one_near TooFine p q = let e = rates_same tasks sound p.0 q.0 in omega (arith, e.1, p.1, q.1)
  one_near TooFar p q =
      let e = rates_same tasks sound p.0 q.1.rates in
      let r = rate_same p.0 q.1.rates in
      omega (arith, e.1, r, p.2, q.1.below)

  -- Nor is it another.
  pub one_alone : IsAtOne tasks → IsOther tasks → ⊥
  one_alone p (inl q) =
      let e = rates_same tasks sound p.0 q.1.rates in
      let r = rate_same p.0 q.1.rates in
      omega (arith, e.1, r, p.2, q.1.below)
  one_alone p (inr q) =
      let e = rates_same tasks sound p.0 q.0 in
      let r = rate_same p.0 q.0 in
      omega (arith, e.1, r, p.2, q.2)

  -- And another isn't out of reach.
  pub other_near : (b : Beyond) → IsOther tasks → IsBeyond tasks b → ⊥
  other_near TooFine (inl p) q = let e = rates_same tasks sound p.1.rates q.0 in omega (arith, e.1, p.1.fine, q.1)
  other_near TooFine (inr p) q = let e = rates_same tasks sound p.0 q.0 in omega (arith, e.1, p.1, q.1)
  other_near TooFar (inl p) q = let e = horizon_same tasks sound p.0 q.0 p.1 q.1 in omega (arith, e, p.2, q.2)
  other_near TooFar (inr p) q =
      let e = rates_same tasks sound p.0 q.1.rates in
      let r = rate_same p.0 q.1.rates in
      omega (arith, e.1, r, p.2, q.1.below)

-- Where a budget was spent the utilisation is another than one.
pub undecided_other : (tasks : List Task) (budget : ℕ) (spent : EdfTrail) → IsEdfUndecided tasks budget spent → IsOther tasks
undecided_other tasks budget (Table task log) s = inl (s.bound, s.below, s.near)
undecided_other tasks budget (Overload last) s = inr s.above

-- A budget that is enough isn't spent.
not_enough : (tasks : List Task) (budget : ℕ) (spent : EdfTrail) → IsEdfUndecided tasks budget spent → IsEnoughForEdf tasks budget → ⊥
not_enough tasks budget (Table task log) s enough =
    let l = slice_get_within (graphs_of tasks) task s.graph s.is_graph in
    let is = get_or_from_slice_get (graphs_of tasks) task s.graph s.graph s.is_graph in
    let all = subst (λ g. table_need g s.bound ≤ budget) is (enough.tables s.bound s.below task s.graph l) in
    omega (arith, all, s.short)
not_enough tasks budget (Overload last) s enough =
    let all = enough.overload s.above s.proofs s.are s.scale s.is_scale in
    omega (arith, all, s.short)

-- The answer, by its parts.
abbrev pub IsEdfAnswer : Contents → ℕ → ℕ → List ℕ → Trail → Type 0
IsEdfAnswer set budget status written trail =
    ((status ≡ 0) × IsEdfYesText set written × (trail ≡ trails.Nothing))
    ⊎ (((status ≡ 1) × IsEdfNoText set written × (trail ≡ trails.Nothing))
    ⊎ (((status ≡ 2) × IsOneText set written × (trail ≡ trails.Nothing))
    ⊎ ((status ≡ 3) × IsUndecidedText set budget written trail)))

-- An answer has the status that it must have.
pub answer_ends : (set : Contents) → IsTaskSet set.version set.tasks → (budget status : ℕ) (written : List ℕ) (trail : Trail) → IsEdfAnswer set budget status written trail → EdfEnds set budget status
answer_ends set limits budget status written trail (inl a) = record {
  one = λ p. absurd (one_alone set.version set.tasks limits p a.1.other);
  beyond = λ b q. absurd (other_near set.version set.tasks limits b a.1.other q);
  decided = λ enough near. inr (inl (a.0, a.1.yes.schedulable));
}
answer_ends set limits budget status written trail (inr (inl a)) = record {
  one = λ p. absurd (one_alone set.version set.tasks limits p a.1.other);
  beyond = λ b q. absurd (other_near set.version set.tasks limits b a.1.other q);
  decided = λ enough near. inr (inr (a.0, a.1.no.not_schedulable));
}
answer_ends set limits budget status written trail (inr (inr (inl a))) = record {
  one = λ p. a.0;
  beyond = λ b q. absurd (one_near set.version set.tasks limits b a.1.one.at_one q);
  decided = λ enough near. inl (a.0, a.1.one.at_one);
}
answer_ends set limits budget status written trail (inr (inr (inr a))) = record {
  one = λ p. absurd (one_alone set.version set.tasks limits p (undecided_other set.tasks budget a.1.spent a.1.cause));
  beyond = λ b q. absurd (other_near set.version set.tasks limits b (undecided_other set.tasks budget a.1.spent a.1.cause) q);
  decided = λ enough near. absurd (not_enough set.tasks budget a.1.spent a.1.cause enough);
}

-- An answer isn't out of reach.
pub answer_near : (set : Contents) → IsTaskSet set.version set.tasks → (budget status : ℕ) (written : List ℕ) (trail : Trail) (b : Beyond)
    → IsEdfAnswer set budget status written trail → IsBeyond set.tasks b → ⊥
answer_near set limits budget status written trail b (inl a) q = other_near set.version set.tasks limits b a.1.other q
answer_near set limits budget status written trail b (inr (inl a)) q = other_near set.version set.tasks limits b a.1.other q
answer_near set limits budget status written trail b (inr (inr (inl a))) q = one_near set.version set.tasks limits b a.1.one.at_one q
answer_near set limits budget status written trail b (inr (inr (inr a))) q = other_near set.version set.tasks limits b (undecided_other set.tasks budget a.1.spent a.1.cause) q

-- Numbers out of reach have the status 4.
pub beyond_ends : (set : Contents) → IsTaskSet set.version set.tasks → (budget : ℕ) (b : Beyond) → IsBeyond set.tasks b → EdfEnds set budget 4
beyond_ends set limits budget b q = record {
  one = λ p. absurd (one_near set.version set.tasks limits b p q);
  beyond = λ c r. refl;
  decided = λ enough near. absurd (near b q);
}

-- An answer has a status below 4.
pub answer_low : (set : Contents) (budget status : ℕ) (written : List ℕ) (trail : Trail) → IsEdfAnswer set budget status written trail → status < 4
answer_low set budget status written trail (inl a) = omega (arith, a.0)
answer_low set budget status written trail (inr (inl a)) = omega (arith, a.0)
answer_low set budget status written trail (inr (inr (inl a))) = omega (arith, a.0)
answer_low set budget status written trail (inr (inr (inr a))) = omega (arith, a.0)

-- The answer of evidence.
pub answer_is : (set : Contents) (budget : ℕ) (evidence : Evidence) → IsTaskSet set.version set.tasks → AreConstrained set.tasks
    → IsEdfVerdict set.tasks evidence → IsPlanned set.tasks evidence → IsEvidenceInRange evidence
    → IsEdfAnswer set budget (evidence_status evidence) (text (under_edf set evidence)) trails.Nothing
answer_is set budget (EdfYes ratios fronts) limits constrained done planned range =
    inl (
      refl,
      record {
        ratios = ratios;
        fronts = fronts;
        yes = done;
        other = planned;
        is = record { accepts = done.accepted set.version; is = record { stated = (limits, range); is = refl } };
      },
      refl,
    )
answer_is set budget (EdfNo releases miss) limits constrained done planned range =
    inr (inl (
      refl,
      record {
        releases = releases;
        miss = miss;
        no = done;
        other = planned;
        is = record { accepts = done.accepted set.version; is = record { stated = (limits, range); is = refl } };
      },
      refl,
    ))
answer_is set budget (UtilisationOne ratios) limits constrained done planned range =
    inr (inr (inl (
      refl,
      record {
        ratios = ratios;
        one = done;
        is = record { accepts = done.accepted set.version; is = record { stated = (limits, range); is = refl } };
      },
      refl,
    )))
answer_is set budget (FixedYes trees proofs) limits constrained done planned range = absurd done
answer_is set budget (FixedStates tails searches) limits constrained done planned range = absurd done
answer_is set budget (FixedNo releases miss) limits constrained done planned range = absurd done
answer_is set budget Undecided limits constrained done planned range = absurd done

-- It is the answer of the report that is made of the evidence.
pub done_decides : (bytes : List ℕ) (set : Contents) (budget : ℕ) (evidence : Evidence) → IsAccepted bytes set → IsEdfVerdict set.tasks evidence → IsPlanned set.tasks evidence
    → IsEvidenceInRange evidence → (r : Result Report Unmade)
    → IfOk r (λ m. m ≡ record { status = evidence_status evidence; text = text (under_edf set evidence); trail = trails.Nothing })
    → IfOk r (Besides budget bytes)
done_decides bytes set budget evidence accepted done planned range (Ok m) is =
    subst (Besides budget bytes) (sym is)
    (record { set = set; accepted = accepted; answer = answer_is set budget evidence accepted.reads.limits accepted.constrained done planned range })
done_decides bytes set budget evidence accepted done planned range (Err e) is = tt

-- The answer of a spent budget.
pub undecided_is : (set : Contents) (budget : ℕ) (spent : EdfTrail) → IsTaskSet set.version set.tasks → IsEdfUndecided set.tasks budget spent
    → IsEdfAnswer set budget 3 (text (under_edf set Undecided)) (edf_trail_of spent)
undecided_is set budget spent limits cause = inr (inr (inr (refl, record { spent = spent; cause = cause; trail_is = refl; is = record { stated = (limits, tt); is = refl } })))
