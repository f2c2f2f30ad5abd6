-- The worked tree is one that a dossier may claim.
use Rattle.std.proofs.Common.{◌≡◌, ℕ, zero, suc, ◌+◌, ◌<◌, ◌≤◌, [], ◌∷◌, Some, refl, arith}
use Rattle.std.specs.Prelude.{slice_get, All}
use Rattle.std.proofs.lemmas.Option.{slice_get_within}
use Rattle.drt_model.specs.Walk.{or_zero, sep_in, span}
use Rattle.drt_claims.specs.declared.evidence.Pair.{Pair}
use Rattle.drt_claims.specs.Ranges.{IsInRangePair, IsInRangeTree, IsInRangeWalk, IsNumber}
use Rattle.drt_claims.specs.Trees.{HasShortWalks, IsTree, named}
use Rattle.drt_check_tests.specs.Worked.{task_graph, tree}

left : (i : ℕ) (p : Pair) → slice_get tree.pairs i ≡ Some p → p.left < 3 + i
left zero p e = (let f : record { left = 0; right = 1 } ≡ p = cc in rw (← f) (omega arith))
left (suc zero) p e = (let f : record { left = 3; right = 2 } ≡ p = cc in rw (← f) (omega arith))
left (suc (suc i)) p e = (let l = slice_get_within tree.pairs (suc (suc i)) p e in absurd (omega (arith, l)))

right : (i : ℕ) (p : Pair) → slice_get tree.pairs i ≡ Some p → p.right < 3 + i
right zero p e = (let f : record { left = 0; right = 1 } ≡ p = cc in rw (← f) (omega arith))
right (suc zero) p e = (let f : record { left = 3; right = 2 } ≡ p = cc in rw (← f) (omega arith))
right (suc (suc i)) p e = (let l = slice_get_within tree.pairs (suc (suc i)) p e in absurd (omega (arith, l)))

once : (n : ℕ) → n + 1 < 5 → named tree.pairs n ≡ 1
once zero l = refl
once (suc zero) l = refl
once (suc (suc zero)) l = refl
once (suc (suc (suc zero))) l = refl
once (suc (suc (suc (suc n)))) l = absurd (omega arith)

pub is_tree : IsTree tree
is_tree = record { some = omega arith; pairs = refl; left = left; right = right; once = once }

pub is_short : HasShortWalks 5 task_graph tree
unfolding sep_in or_zero span
is_short zero d l = (omega arith, tt, omega arith)
is_short (suc zero) d l = (omega arith, tt, omega arith)
is_short (suc (suc zero)) d l = (omega arith, (refl, tt), omega arith)
is_short (suc (suc (suc k))) d l = absurd (omega arith)

one_number : (n : ℕ) → IsNumber n → All IsNumber (n ∷ [])
one_number n l zero d m = l
one_number n l (suc k) d m = absurd (omega arith)

two_numbers : (m n : ℕ) → IsNumber m → IsNumber n → All IsNumber (m ∷ n ∷ [])
two_numbers m n a b zero d l = a
two_numbers m n a b (suc k) d l = one_number n b k d (omega arith)

in_range_walks : All IsInRangeWalk tree.walks
in_range_walks zero d l = (one_number 1 (omega arith), omega arith)
in_range_walks (suc zero) d l = (one_number 0 (omega arith), omega arith)
in_range_walks (suc (suc zero)) d l = (two_numbers 1 1 (omega arith) (omega arith), omega arith)
in_range_walks (suc (suc (suc k))) d l = absurd (omega arith)

in_range_pairs : All IsInRangePair tree.pairs
in_range_pairs zero d l = (omega arith, omega arith)
in_range_pairs (suc zero) d l = (omega arith, omega arith)
in_range_pairs (suc (suc k)) d l = absurd (omega arith)

pub is_in_range : IsInRangeTree tree
is_in_range = record { walks = in_range_walks; walks_counted = omega arith; pairs = in_range_pairs; pairs_counted = omega arith }
