-- The edges to a block, one block after the other.
use Rattle.std.proofs.Common.{◌≡◌, ℕ, zero, suc, ◌+◌, ◌<◌, Bool, true, false, List, [], ◌∷◌, ◌++◌, map, length, take, set, get_or, slice_get, Option, Some, refl, sym, ap, ◌∙◌, subst, inl, inr, arith}
use Rattle.std.specs.Prelude.{◌==◌, cond, filter, MatchOption, ⊤}
use Rattle.std.proofs.lemmas.Bool.{cases_eq, eq-eqb, ne_eqb}
use Rattle.std.proofs.lemmas.Grind.{get_or-set_at}
use Rattle.std.proofs.lemmas.List.{append_assoc, get_or-set_other, map-append, take_more, append-nil}
use Rattle.std.proofs.lemmas.Option.{same_Some}
use Rattle.module_arena.specs.Mentions.{targets_of}
use Rattle.module_arena.specs.declared.entry.Block.{Block}
use Rattle.instruction_verify.specs.Uses.Edges.{edges_to, source_of, sources_from}

-- edges of some targets, and of others
pub edges_append : (from to : ℕ) (xs ys : List ℕ) → edges_to from xs to ++ edges_to from ys to ≡ edges_to from (xs ++ ys) to
edges_append from to [] ys = refl
edges_append from to (x ∷ xs) ys = by (x == to) (edges_append from to xs ys)
  where
    by : (b : Bool) → edges_to from xs to ++ edges_to from ys to ≡ edges_to from (xs ++ ys) to
        → map (λ (t : ℕ). from) (cond b (x ∷ filter (λ t. t == to) xs) (filter (λ t. t == to) xs)) ++ edges_to from ys to
        ≡ map (λ (t : ℕ). from) (cond b (x ∷ filter (λ t. t == to) (xs ++ ys)) (filter (λ t. t == to) (xs ++ ys)))
    by true rest = ap (λ (zs : List ℕ). from ∷ zs) rest
    by false rest = rest

-- the edges of one block more
more_by : (first to : ℕ) (bs : List Block) (i : ℕ) (b : Block) → slice_get bs i ≡ Some b
    → sources_from first (take i bs) to ++ edges_to (first + i) (targets_of b.end) to ≡ sources_from first (take (suc i) bs) to
more_by first to [] i b at = absurd (subst (λ (o : Option Block). MatchOption o ⊤ (λ z. ⊥)) at tt)
more_by first to (x ∷ bs) zero b at =
    let here : first + 0 ≡ first = omega arith in
    (λ j. edges_to (here j) (targets_of (sym (same_Some x b at) j).end) to) ∙ sym (append-nil (edges_to first (targets_of x.end) to))
more_by first to (x ∷ bs) (suc i) b at =
    let next : first + suc i ≡ first + 1 + i = omega arith in
    append_assoc (edges_to first (targets_of x.end) to) (sources_from (first + 1) (take i bs) to) (edges_to (first + suc i) (targets_of b.end) to)
    ∙ ap (λ (ys : List ℕ). edges_to first (targets_of x.end) to ++ ys)
    (ap (λ n. sources_from (first + 1) (take i bs) to ++ edges_to n (targets_of b.end) to) next ∙ more_by (first + 1) to bs i b at)

pub one_block_more : (to : ℕ) (bs : List Block) (i : ℕ) (b : Block) → slice_get bs i ≡ Some b
    → sources_from 0 (take i bs) to ++ edges_to i (targets_of b.end) to ≡ sources_from 0 (take (i + 1) bs) to
one_block_more to bs i b at =
    let same : 0 + i ≡ i = omega arith in
    let next : suc i ≡ i + 1 = omega arith in
    ap (λ n. sources_from 0 (take i bs) to ++ edges_to n (targets_of b.end) to) (sym same) ∙ more_by 0 to bs i b at ∙ ap (λ n. sources_from 0 (take n bs) to) next

-- one edge more
pub one_edge : (sources : List (List ℕ)) (from to : ℕ) (old : List ℕ) → to < length sources → old ≡ source_of sources to → (b : ℕ)
    → source_of (set sources to (old ++ from ∷ [])) b ≡ source_of sources b ++ edges_to from (to ∷ []) b
one_edge sources from to old lt is b = elim (cases_eq to b) [
  | inl same ↦
      get_or-set_at sources to b (old ++ from ∷ []) [] (sym same) lt
      ∙ ap (λ (xs : List ℕ). xs ++ from ∷ []) (is ∙ ap (source_of sources) same)
      ∙ ap (λ (t : Bool). source_of sources b ++ map (λ (x : ℕ). from) (cond t (to ∷ []) [])) (sym (eq-eqb to b same))
  | inr other ↦
      get_or-set_other sources to b (old ++ from ∷ []) [] (λ z. other (sym z))
      ∙ sym (append-nil (source_of sources b))
      ∙ ap (λ (t : Bool). source_of sources b ++ map (λ (x : ℕ). from) (cond t (to ∷ []) [])) (sym (ne_eqb to b other))
]

-- so many edges from a block are added
abbrev pub Added : ℕ → List ℕ → List (List ℕ) → List (List ℕ) → Type 0
Added from targets old new = (b : ℕ) → b < length old → source_of new b ≡ source_of old b ++ edges_to from targets b

pub more_edges : (from : ℕ) (xs ys : List ℕ) (old middle new : List (List ℕ)) → length middle ≡ length old → Added from xs old middle → Added from ys middle new → Added from (xs ++ ys) old new
more_edges from xs ys old middle new len one two b lt =
    two b (omega (arith, len, lt))
    ∙ ap (λ (zs : List ℕ). zs ++ edges_to from ys b) (one b lt)
    ∙ append_assoc (source_of old b) (edges_to from xs b) (edges_to from ys b)
    ∙ ap (λ (zs : List ℕ). source_of old b ++ zs) (edges_append from b xs ys)

pub no_edges : (from : ℕ) (old : List (List ℕ)) → Added from [] old old
no_edges from old b lt = sym (append-nil (source_of old b))

-- what one more of a list is mapped to
pub mapped_more : {X : Type 0} (f : X → ℕ) (xs : List X) (i : ℕ) (x : X) → i < length xs → x ≡ get_or xs i x → map f (take i xs) ++ f x ∷ [] ≡ map f (take (i + 1) xs)
mapped_more f xs i x lt is =
    ap (λ y. map f (take i xs) ++ f y ∷ []) is
    ∙ sym (map-append f (take i xs) (get_or xs i x ∷ []))
    ∙ ap (map f) (sym (take_more xs i x lt))
