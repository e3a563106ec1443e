-- What instructions define is among the values of their function.
use Rattle.std.proofs.Common.{◌≡◌, ℕ, zero, suc, ◌+◌, ◌<◌, ◌≤◌, All, List, [], ◌∷◌, ◌++◌, length, map, flat_map, get_or, slice_get, Option, Some, None, sym, ap, ◌∙◌, subst, arith}
use Rattle.std.specs.Prelude.{option_to_list}
use Rattle.std.specs.Option.{option_map_or}
use Rattle.std.proofs.lemmas.List.{length-append, length-map}
use Rattle.std.proofs.lemmas.Option.{get_or_from_slice_get, slice_get_within}
use Rattle.type_table.proofs.Judged.{All-left, All-right}
use Rattle.module_arena.specs.declared.entry.Body.{Body}
use Rattle.module_arena.specs.declared.entry.Function.{Function}
use Rattle.module_arena.specs.declared.entry.Parameter.{Parameter}
use Rattle.module_arena.specs.Known.{IsGood, KnowsFunction, KnowsBody, upto}
use Rattle.module_arena.specs.Lists.{Lists, value_names, function_blocks}
use Rattle.module_arena.specs.Mentions.{result_of, block_results}
use Rattle.record_write.specs.Order.Bodies.{HasResults}

-- what holds of each in some pieces holds of each in each piece
all_pieces : {X A : Type 0} (P : A → Type 0) (g : X → List A) (xs : List X) → All P (flat_map g xs) → All (λ x. All P (g x)) xs
all_pieces P g [] h = λ k d lt. absurd (omega (arith, lt))
all_pieces {X} P g (x ∷ xs) h = λ k d lt. elim k as (λ n. n < suc (length xs) → All P (g (get_or (x ∷ xs) n d))) [
  | zero ↦ (λ l. All-left P (g x) (flat_map g xs) h)
  | suc n ↦ (λ l. all_pieces P g xs (All-right P (g x) (flat_map g xs) h) n d (omega (arith, l)))
] lt

upto_below : (first count bound : ℕ) → first + count ≤ bound → All (λ id. id < bound) (upto first count)
unfolding upto
upto_below first zero bound le = λ k d lt. absurd (omega (arith, lt))
upto_below first (suc count) bound le = λ k d lt. elim k as (λ n. n < suc (length (upto (first + 1) count)) → get_or (first ∷ upto (first + 1) count) n d < bound) [
  | zero ↦ (λ l. omega (arith, le))
  | suc n ↦ (λ l. upto_below (first + 1) count bound (omega (arith, le)) n d (omega (arith, l)))
] lt

body_results : (types constants : ℕ) (ps : List Parameter) (o : Option Body) → All (KnowsBody types constants (length ps)) (option_to_list o)
    → All (λ b. All (HasResults (map (λ p. p.name) ps ++ option_map_or (λ b. b.results) o [])) b.instructions) (option_map_or (λ b. b.blocks) o [])
body_results types constants ps None h = λ k d lt. absurd (omega (arith, lt))
body_results types constants ps (Some body) h =
    let known = h 0 body (omega arith) in
    let values = map (λ p. p.name) ps ++ body.results in
    let many : length (map (λ p. p.name) ps ++ body.results) ≡ length ps + length body.results = length-append (map (λ p. p.name) ps) body.results ∙ ap (λ n. n + length body.results) (length-map ps (λ p. p.name)) in
    let all : All (λ id. id < length (map (λ p. p.name) ps ++ body.results)) (flat_map block_results body.blocks) =
    subst (λ (ids : List ℕ). All (λ id. id < length (map (λ p. p.name) ps ++ body.results)) ids) (sym known.in_order) (upto_below (length ps) (length body.results) (length (map (λ p. p.name) ps ++ body.results)) (omega (arith, many))) in
    λ k d lt. all_pieces (λ id. id < length (map (λ p. p.name) ps ++ body.results)) result_of (get_or body.blocks k d).instructions (all_pieces (λ id. id < length (map (λ p. p.name) ps ++ body.results)) block_results body.blocks all k d lt)

pub results_known : (a : Lists) → IsGood a → (number : ℕ) (f : Function) → slice_get a.functions number ≡ Some f → All (λ b. All (HasResults (value_names f)) b.instructions) (function_blocks f)
results_known a good number f at =
    let lt = slice_get_within a.functions number f at in
    let known = subst (KnowsFunction (length a.table.types) (length a.constants)) (get_or_from_slice_get a.functions number f f at) (good.functions number f lt) in
    body_results (length a.table.types) (length a.constants) f.parameters f.body known.body_known
