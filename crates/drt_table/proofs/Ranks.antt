-- Where nodes stand in the list of their vertex.
use Rattle.std.proofs.Common.{◌≡◌, ℕ, ◌<◌, ◌≤◌, ◌⊎◌, inl, inr, sym, arith}
use Rattle.drt_table.specs.Links.{standing}

-- a node of less offset stands lower
pub lower : (o p i j : ℕ) → o < p → standing o i < standing p j
unfolding standing
lower o p i j lt = omega arith

-- and one that stands no higher has no greater offset
pub no_greater : (o p i j : ℕ) → i < 4294967296 → j < 4294967296 → standing o i ≤ standing p j → o ≤ p
unfolding standing
no_greater o p i j li lj le = omega arith

-- a later node of no greater offset stands lower
pub newer : (o p i j : ℕ) → o ≤ p → j < i → i < 4294967296 → standing o i < standing p j
unfolding standing
newer o p i j le lt li = omega arith

-- no two stand alike
pub same_number : (o p i j : ℕ) → i < 4294967296 → j < 4294967296 → standing o i ≡ standing p j → i ≡ j
unfolding standing
same_number o p i j li lj e = omega arith

pub same_offset : (o p i j : ℕ) → o ≡ p → i ≡ j → standing o i ≤ standing p j
unfolding standing
same_offset o p i j e f = omega arith

pub below_above : (m n : ℕ) → (m < n) ⊎ ((m ≡ n) ⊎ (n < m))
below_above m n = grind arith

-- who stands no higher is the same one, has less offset, or a later number at the same offset
pub above_or_same : (o p k i : ℕ) → k < 4294967296 → i < 4294967296 → standing o k ≤ standing p i → (k ≡ i) ⊎ ((o < p) ⊎ ((o ≡ p) × (i < k)))
above_or_same o p k i lk li le = by_offset (below_above o p)
  where
    by_number : o ≡ p → (i < k) ⊎ ((i ≡ k) ⊎ (k < i)) → (k ≡ i) ⊎ ((o < p) ⊎ ((o ≡ p) × (i < k)))
    by_number e (inl lt) = inr (inr (e, lt))
    by_number e (inr (inl same)) = inl (sym same)
    by_number e (inr (inr gt)) = let lt = newer p o i k (omega (arith, e)) gt li in absurd (omega (arith, lt, le))

    by_offset : (o < p) ⊎ ((o ≡ p) ⊎ (p < o)) → (k ≡ i) ⊎ ((o < p) ⊎ ((o ≡ p) × (i < k)))
    by_offset (inl lt) = inr (inl lt)
    by_offset (inr (inl e)) = by_number e (below_above i k)
    by_offset (inr (inr gt)) = let h = no_greater o p k i lk li le in absurd (omega (arith, h, gt))

-- who stands lower has less offset, or a later number at the same offset
pub above : (o p k i : ℕ) → k < 4294967296 → i < 4294967296 → standing o k < standing p i → (o < p) ⊎ ((o ≡ p) × (i < k))
above o p k i lk li lt = by_place (above_or_same o p k i lk li (omega (arith, lt)))
  where
    by_offset : k ≡ i → (o < p) ⊎ ((o ≡ p) ⊎ (p < o)) → (o < p) ⊎ ((o ≡ p) × (i < k))
    by_offset same (inl less) = inl less
    by_offset same (inr (inl e)) = let h = same_offset p o i k (sym e) (sym same) in absurd (omega (arith, h, lt))
    by_offset same (inr (inr gt)) = let h = no_greater o p k i lk li (omega (arith, lt)) in absurd (omega (arith, h, gt))

    by_place : (k ≡ i) ⊎ ((o < p) ⊎ ((o ≡ p) × (i < k))) → (o < p) ⊎ ((o ≡ p) × (i < k))
    by_place (inl same) = by_offset same (below_above o p)
    by_place (inr less) = less

-- and the other way round
pub stands_lower : (o p k i : ℕ) → k < 4294967296 → (o < p) ⊎ ((o ≡ p) × (i < k)) → standing o k < standing p i
stands_lower o p k i lk (inl lt) = lower o p k i lt
stands_lower o p k i lk (inr x) = let e = x.0 in newer o p k i (omega (arith, e)) x.1 lk
