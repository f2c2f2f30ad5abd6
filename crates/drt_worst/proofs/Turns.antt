-- One turn of a pass keeps its run.
use Rattle.std.proofs.Common.{◌≡◌, ℕ, ◌+◌, ◌<◌, ◌≤◌, List, [], ◌∷◌, ◌++◌, length, length-append, map, refl, sym, ap, ◌∙◌, subst, inl, inr, arith}
use Rattle.std.specs.Prelude.{reverse, IfSome}
use Rattle.std.proofs.lemmas.Option.{IfSome_then}
use Rattle.drt_refine.specs.Below.{IsConcrete}
use Rattle.drt_worst.specs.Splitting.{Search, AreParts, IsPart, IsReached, PassesFor}
use Rattle.drt_worst.specs.Runs.{Choice, skips, reaches, splits, PassEntry, combination_of, known, left_after, stack_after, known_after, IsFit, IsRunFrom}
use Rattle.drt_worst.proofs.Below.{below_part, concrete_below}
use Rattle.drt_worst.proofs.Runs.{parts_left, run_more}
use Rattle.drt_worst.specs.Rising.{HoldsOfEach, with_noted}
use Rattle.drt_worst.proofs.Steps.{each_in, each_weaker}
use Rattle.drt_worst.specs.declared.view.View.{View}
use Rattle.drt_worst.specs.Plans.{CanTake}
use Rattle.drt_worst.specs.Passing.{announced, best_after, leaves_after, IsNotedIn, IsGreatestRaised, HasRunWith, HasRun, IsSearchReady}
use Rattle.drt_worst.specs.declared.pass.Pass.{Pass}
use Rattle.drt_worst.proofs.Places.{part_take}

map_end : (es : List PassEntry) (e : PassEntry) → map combination_of (es ++ e ∷ []) ≡ map combination_of es ++ e.combination ∷ []
map_end [] e = refl
map_end (d ∷ es) e = ap (λ z. d.combination ∷ z) (map_end es e)

module _ (s : Search) (roots : List ℕ) where
  stack_parts : (low : ℕ) (stack : List (List ℕ)) (es : List PassEntry) → AreParts s.forest roots stack → IsRunFrom s low stack es → AreParts s.forest roots (stack_after stack es)
  stack_parts low stack [] ps run = ps
  stack_parts low [] (d ∷ es) ps run = elim run [ ]
  stack_parts low (c ∷ stack) (d ∷ es) ps run = stack_parts (known d.seen d.choice) (left_after d.choice stack) es (parts_left s roots c stack d.seen d.choice run.2 ps.0 ps.1) run.3

  pub combo_part : (combination : List ℕ) (left : List (List ℕ)) (p : Pass) → HasRunWith s roots (combination ∷ left) p → IsPart s.forest roots combination
  combo_part combination left p r =
      let ps : AreParts s.forest roots (stack_after (p.start ∷ []) r.entries) = stack_parts 0 (p.start ∷ []) r.entries (r.part, tt) r.run in
      let qs : AreParts s.forest roots (combination ∷ left) = subst (λ (z : List (List ℕ)). AreParts s.forest roots z) r.stack ps in
      qs.0

  pub combo_take : IsSearchReady s roots → (combination : List ℕ) (left : List (List ℕ)) (p : Pass) → HasRunWith s roots (combination ∷ left) p → CanTake s.forest s.deadline combination
  combo_take ready combination left p r = part_take s.forest s.deadline roots combination ready.forest (combo_part combination left p r) ready.take

  pub combo_passes : IsSearchReady s roots → (combination : List ℕ) (left : List (List ℕ)) (p : Pass)
      → HasRunWith s roots (combination ∷ left) p → IsConcrete s.forest combination → (t : ℕ) × PassesFor s combination t
  combo_passes ready combination left p r leaf =
      ready.passes combination (below_part s.forest combination roots combination (combo_part combination left p r) (concrete_below s.forest combination leaf))

  pub combo_reached : (combination : List ℕ) (left : List (List ℕ)) (p : Pass) → HasRunWith s roots (combination ∷ left) p
      → (seen t : ℕ) (choice : Choice) → IsFit s combination seen choice → choice ≡ reaches t → IsReached s roots t combination
  combo_reached combination left p r seen t choice fits is =
      let h : IsFit s combination seen (reaches t) = subst (λ (x : Choice). IsFit s combination seen x) is fits in
      record { below = below_part s.forest combination roots combination (combo_part combination left p r) (concrete_below s.forest combination h.0); least = h.1 }

  known_low : (n seen : ℕ) (v : View) → IsNotedIn n v → HoldsOfEach (λ x. x ≤ seen) v.raised → HoldsOfEach (λ x. x ≤ seen) v.noted → n ≤ seen
  known_low n seen v (inl z) a b = omega arith
  known_low n seen v (inr (inl i)) a b = each_in (λ x. x ≤ seen) n v.raised a i
  known_low n seen v (inr (inr i)) a b = each_in (λ x. x ≤ seen) n v.noted b i

  noted_by : (v : View) (seen : ℕ) (choice : Choice) → IsNotedIn (known seen choice) (announced (with_noted v seen) choice)
  noted_by v seen skips = inr (inr (inl refl))
  noted_by v seen (reaches t) = inr (inl (inl refl))
  noted_by v seen (splits l r) = inr (inr (inl refl))

  best_by : (v : View) (combination leaves : List ℕ) (best seen : ℕ) (choice : Choice) → IsFit s combination seen choice
      → IsPart s.forest roots combination → HoldsOfEach (λ x. x ≤ seen) v.raised → IsGreatestRaised s roots best leaves v
      → IsGreatestRaised s roots (best_after best choice) (leaves_after leaves combination choice) (announced (with_noted v seen) choice)
  best_by v combination leaves best seen skips fits part a b = record { most = b.most; is = b.is }
  best_by v combination leaves best seen (reaches t) fits part a b =
      let lt : seen < t = fits.2 in
      record {
        most = (omega arith, each_weaker (λ x. x ≤ seen) (λ x. x ≤ t) (λ x h. omega arith) v.raised a);
        is = inr (inl refl, record { below = below_part s.forest combination roots combination part (concrete_below s.forest combination fits.0); least = fits.1 });
      }
  best_by v combination leaves best seen (splits l r) fits part a b = record { most = b.most; is = b.is }

  -- what one turn did
  pub record Followed (combination : List ℕ) (seen : ℕ) (choice : Choice) (p q : Pass) : Type 0 where
    pub start : q.start ≡ p.start
    pub stack : reverse q.stack.items ≡ left_after choice (reverse p.stack.items)
    pub count : q.taken.count ≡ p.taken.count + 1
    pub told : (list : List (List ℕ)) → IfSome p.taken.told (λ v. list ≡ v.items) → IfSome q.taken.told (λ v. list ++ combination ∷ [] ≡ v.items)
    pub known : q.known ≡ known seen choice
    pub view : q.seat.me.0 ≡ announced (with_noted p.seat.me.0 seen) choice
    pub best : q.best ≡ best_after p.best choice
    pub leaves : q.leaves ≡ leaves_after p.leaves combination choice

  pub follows : (combination : List ℕ) (seen : ℕ) (choice : Choice) (p q : Pass) → HasRunWith s roots (combination ∷ reverse p.stack.items) p → IsFit s combination seen choice
      → HoldsOfEach (λ x. x ≤ seen) p.seat.me.0.raised → HoldsOfEach (λ x. x ≤ seen) p.seat.me.0.noted → Followed combination seen choice p q → HasRun s roots q
  follows combination seen choice p q r fits a b f =
      let low : p.known ≤ seen = known_low p.known seen p.seat.me.0 r.noted a b in
      let e : PassEntry = record { combination = combination; seen = seen; choice = choice } in
      let start : q.start ≡ p.start = f.start in
      let more = run_more s 0 (p.start ∷ []) r.entries e combination (reverse p.stack.items) r.run r.stack refl (let k : known_after 0 r.entries ≡ p.known = r.known in omega arith) fits in
      let part : IsPart s.forest roots combination = combo_part combination (reverse p.stack.items) p r in
      record {
        part = subst (λ (z : List ℕ). IsPart s.forest roots z) (sym start) r.part;
        entries = r.entries ++ e ∷ [];
        run = subst (λ (z : List ℕ). IsRunFrom s 0 (z ∷ []) (r.entries ++ e ∷ [])) (sym start) more.0;
        stack = ap (λ (z : List ℕ). stack_after (z ∷ []) (r.entries ++ e ∷ [])) start ∙ (more.1 ∙ sym f.stack);
        count = (let one : length (r.entries ++ e ∷ []) ≡ length r.entries + 1 = length-append r.entries (e ∷ []) in one ∙ (ap (λ n. n + 1) r.count ∙ sym f.count));
        told = IfSome_then q.taken.told (f.told (map combination_of r.entries) r.told) (λ v same. map_end r.entries e ∙ same);
        known = more.2 ∙ sym f.known;
        noted = subst (λ (n : ℕ). IsNotedIn n q.seat.me.0) (sym f.known) (subst (λ (v : View). IsNotedIn (known seen choice) v) (sym f.view) (noted_by p.seat.me.0 seen choice));
        best = subst (λ (v : View). IsGreatestRaised s roots q.best q.leaves v) (sym f.view)
            (subst (λ (n : ℕ). IsGreatestRaised s roots n q.leaves (announced (with_noted p.seat.me.0 seen) choice)) (sym f.best)
            (subst (λ (l : List ℕ). IsGreatestRaised s roots (best_after p.best choice) l (announced (with_noted p.seat.me.0 seen) choice)) (sym f.leaves)
            (best_by p.seat.me.0 combination p.leaves p.best seen choice fits part a r.best)));
      }
