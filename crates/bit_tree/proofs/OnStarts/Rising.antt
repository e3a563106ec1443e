-- Rows whose ids ascend, and those of one id among them.
use Rattle.std.proofs.Common.{◌≡◌, ℕ, suc, ◌+◌, ◌-◌, ◌<◌, ◌≤◌, List, [], ◌∷◌, ◌++◌, length, take, drop, map, get_or, refl, sym, ap, ◌∙◌, subst, arith, ⊎_elim, append-nil, length-append, length-drop, length-take, get_or-drop, get_or-take, take_at}
use Rattle.std.specs.List.{insert, slice_range}
use Rattle.std.specs.List.Sorted.{IsPartitionPoint}
use Rattle.std.proofs.lemmas.Bool.{cases_lt}
use Rattle.std.proofs.lemmas.List.{drop_at, get_or_append_left, get_or-append_right, get_or_at, get_or-append-add, length-take-le}
use Rattle.std.proofs.lemmas.List.Edits.{split_between, length-between, get_or-between}
use Rattle.std.proofs.lemmas.List.Sorted.{IsNonDecreasingBy-insert}
use Rattle.bit_tree.specs.declared.starts.row.GivenDefinition.{GivenDefinition}
use Rattle.bit_tree.specs.Starts.Rows.{row_id, starts_in, IsAscending}
use Rattle.bit_tree.proofs.OnStarts.StartLists.{starts-append, starts_none, starts_all}

-- what is read where there is no row
abbrev pub no_row : GivenDefinition
no_row = record { high = 0; low = 0; start = 0 }

-- the smaller ids end before those that are not greater

below_through : (xs : List GivenDefinition) (id low high : ℕ) → low ≤ length xs → IsPartitionPoint (λ (x : GivenDefinition). row_id x < id) (λ (x : GivenDefinition). id ≤ row_id x) xs low
    → IsPartitionPoint (λ (x : GivenDefinition). row_id x ≤ id) (λ (x : GivenDefinition). id < row_id x) xs high → low ≤ high
below_through xs id low high short below through = ⊎_elim (λ crossed. absurd (clash crossed)) (λ fine. fine) (cases_lt high low) where
  clash : high < low → ⊥
  clash crossed =
      let small = below.0 high no_row (omega arith) crossed in
      let great = through.1 high no_row (omega arith) (omega arith) in
      omega (arith, small, great)

-- between those ends stand the rows of an id
pub span_is : (xs : List GivenDefinition) (id low high : ℕ) → low ≤ length xs → high ≤ length xs → IsPartitionPoint (λ (x : GivenDefinition). row_id x < id) (λ (x : GivenDefinition). id ≤ row_id x) xs low
    → IsPartitionPoint (λ (x : GivenDefinition). row_id x ≤ id) (λ (x : GivenDefinition). id < row_id x) xs high → (low ≤ high) × (map (λ (x : GivenDefinition). x.start) (slice_range xs low high) ≡ starts_in xs id)
span_is xs id low high short long below through = (order, sym whole) where
  order : low ≤ high
  order = below_through xs id low high short below through

  front : starts_in (take low xs) id ≡ []
  front = starts_none (take low xs) id (λ k d within same.
      let near : k < low = omega (arith, length-take low xs) in
      let at = ap row_id (get_or-take low xs k d near) in
      let small = below.0 k d (omega arith) near in
      omega (arith, same, at, small))

  middle : starts_in (slice_range xs low high) id ≡ map (λ (x : GivenDefinition). x.start) (slice_range xs low high)
  middle = starts_all (slice_range xs low high) id (λ k d within.
      let near : low + k < high = omega (arith, length-between xs low high long) in
      let at = ap row_id (get_or-between xs low high k d near) in
      let least = below.1 (low + k) d (omega arith) (omega arith) in
      let most = through.0 (low + k) d (omega arith) near in
      omega (arith, at, least, most))

  back : starts_in (drop high xs) id ≡ []
  back = starts_none (drop high xs) id (λ k d within same.
      let near : high + k < length xs = omega (arith, length-drop high xs) in
      let at = ap row_id (get_or-drop high xs k d) in
      let great = through.1 (high + k) d (omega arith) near in
      omega (arith, same, at, great))

  whole : starts_in xs id ≡ map (λ (x : GivenDefinition). x.start) (slice_range xs low high)
  whole =
      ap (λ (l : List GivenDefinition). starts_in l id) (split_between xs low high order) ∙ (starts-append (take low xs) (slice_range xs low high ++ drop high xs) id
      ∙ (ap (λ (l : List ℕ). l ++ starts_in (slice_range xs low high ++ drop high xs) id) front ∙ (starts-append (slice_range xs low high) (drop high xs) id
      ∙ (ap (λ (l : List ℕ). starts_in (slice_range xs low high) id ++ l) back ∙ (append-nil (starts_in (slice_range xs low high) id) ∙ middle)))))

-- the first rows of a list, behind which others stand: none is of a greater id than the last of them
pub upto_last : (xs rest : List GivenDefinition) (n : ℕ) → n ≤ length xs → IsAscending (take n xs ++ rest) → (k : ℕ) (d : GivenDefinition) → k < n → row_id (get_or xs k d) ≤ row_id (get_or xs (n - 1) d)
upto_last xs rest n long up k d near =
    let size = length-take-le n xs long in
    let all = length-append (take n xs) rest in
    let one = at k near in
    let last = at (n - 1) (omega arith) in
    omega (arith, one, last, up k (n - 1) d (omega arith) (omega (arith, size, all))) where
      at : (i : ℕ) → i < n → row_id (get_or (take n xs ++ rest) i d) ≡ row_id (get_or xs i d)
      at i within =
          let size = length-take-le n xs long in
          ap row_id (get_or_append_left (take n xs) rest d i (omega (arith, size)) ∙ get_or-take n xs i d within)

-- a row between rows that are not greater and rows that are not smaller
pub joined : (xs ys rest : List GivenDefinition) (row : GivenDefinition) → IsAscending (xs ++ rest) → IsAscending (ys ++ row ∷ rest) → ((k : ℕ) (d : GivenDefinition) → k < length xs → row_id (get_or xs k d) ≤ row_id row)
    → IsAscending (xs ++ row ∷ rest)
joined xs ys rest row up other small = subst P placed (IsNonDecreasingBy-insert row_id (xs ++ rest) (length xs) row up (omega (arith, length-append xs rest)) low high) where
  P : List GivenDefinition → Type 0
  P l = IsAscending l

  placed : insert (xs ++ rest) (length xs) row ≡ xs ++ row ∷ rest
  placed = λ i. take_at xs rest (length xs) refl i ++ row ∷ drop_at xs rest (length xs) refl i

  low : (k : ℕ) (d : GivenDefinition) → k < length xs → row_id (get_or (xs ++ rest) k d) ≤ row_id row
  low k d near = omega (arith, ap row_id (get_or_append_left xs rest d k near), small k d near)

  high : (k : ℕ) (d : GivenDefinition) → length xs ≤ k → k < length (xs ++ rest) → row_id row ≤ row_id (get_or (xs ++ rest) k d)
  high k d far within =
      let m = k - length xs in
      let one = ap row_id (get_or-append_right xs rest (length xs) k d refl far) in
      let two = ap row_id (get_or_at ys row rest d (length ys) refl) in
      let three = ap row_id (get_or-append-add ys (row ∷ rest) (suc m) d) in
      let rises = other (length ys) (length ys + suc m) d (omega arith) (omega (arith, length-append xs rest, length-append ys (row ∷ rest))) in
      omega (arith, one, two, three, rises)
