-- The blocks of variables lie where look-up has them.
use Rattle.std.proofs.Common.{◌≡◌, ℕ, ◌+◌, ◌≤◌, List, [], ◌∷◌, ◌++◌, length, map, filter, Some, Ok, true, false, refl, sym, ap, ◌∙◌, subst, arith, unwrap_or}
use Rattle.std.specs.Prelude.{slice_get}
use Rattle.std.specs.Int.{next_multiple_of}
use Rattle.std.specs.List.{AllByRecursion}
use Rattle.std.proofs.lemmas.List.{length-map}
use Rattle.ir_memory.specs.declared.kind.BlockKind.TheVariants as kind
use Rattle.ir_memory.specs.MemoryBlock.{new_block}
use Rattle.ir_memory.specs.Memory.{Blocks, no_blocks}
use Rattle.linkage_rules.specs.Bind as bind
use Rattle.linkage_rules.specs.declared.symbol.Symbol.{Symbol}
use Rattle.linkage_rules.specs.Addresses.{address, addressed_from, place, placed_from, rooms}
use Rattle.linkage_rules.specs.Symbols.{function_symbols}
use Rattle.linkage_rules.specs.Entries.{same_symbol}
use Rattle.std.specs.Map.{lookup}
use Rattle.module_arena.specs.Lists.{Lists}
use Rattle.module_arena.specs.Module.{Module}
use Rattle.module_arena.specs.Valid.{IsValid}
use Rattle.module_arena.specs.View.{module_of}
use Rattle.module_arena.specs.WellFormed.{IsWellFormed}
use Rattle.module_arena.specs.declared.entry.Variable.{Variable}
use Rattle.run_names.proofs.Arena.{variable_behind}
use Rattle.run_names.proofs.Bounded.{alignment_bounded}
use Rattle.run_names.proofs.Roomed.{row_of, rooms_are}
use Rattle.run_names.proofs.Listed.{all_from_places, mapped_at}
use Rattle.run_names.proofs.Put.{Row, all_kept_have, found_starts, same_maps}
use Rattle.run_names.specs.declared.spot.Spot.{Spot}
use Rattle.run_names.specs.Spots.{AreSpots, is_defined, needs}
use Rattle.run_rules.specs.Opening.{with_variables}
use Rattle.run_rules.specs.Plan as plans
use Rattle.run_names.specs.Told.{alone}
use Rattle.run_initial.specs.Contents.Placed.{ArePlaced, IsNewBlock}
use Rattle.run_initial.proofs.OnContents.Made.{rounded_same, starts_from, variables_made}
use Rattle.run_initial.proofs.OnContents.Rooms.{rooms_unlike}

-- each variable has a block; from the k-th on it is as it was made, where the variable lies, and nothing is sealed
pub record ArePlacedFrom (a : Lists) (k : ℕ) (m : Blocks) : Type 0 where
  pub unsealed : m.sealed ≡ false
  pub many : length (rooms (alone (module_of a))) ≤ length m.list
  pub fresh : (spots : List Spot) → AreSpots a spots → (j : ℕ) (s : Spot) → k ≤ j → slice_get spots j ≡ Some s → slice_get m.list j ≡ Some (new_block s.start s.size (kind.Variable s.constant))

-- from the first on
pub placed_from_start : (a : Lists) (m : Blocks) → ArePlaced a m → ArePlacedFrom a 0 m
placed_from_start a m placed = record { unsealed = placed.unsealed; many = placed.many; fresh = λ spots are j s le at. placed.fresh spots are j s at }

-- a variable's block is new
pub new_there : (a : Lists) (k : ℕ) (m : Blocks) (spots : List Spot) → AreSpots a spots → (s : Spot) → slice_get spots k ≡ Some s → ArePlacedFrom a k m → (size : ℕ) → s.size ≡ size → IsNewBlock m (record { block = Some k; address = s.start }) size
new_there a k m spots are s at placed size same = record {
  index = k;
  constant = s.constant;
  of_block = refl;
  there = placed.fresh spots are k s (omega arith) at ∙ ap (λ (n : ℕ). Some (new_block s.start n (kind.Variable s.constant))) same;
  near = let ends = are.within k s at in omega (arith, ends, same);
  unsealed = placed.unsealed;
}

-- rows of which each alignment is some
same_starts : (parts : List Module) (next : ℕ) (rows : List Row) → AllByRecursion (λ (r : Row). 1 ≤ r.1.alignment) rows
    → starts_from next (map (plans.variable_of parts) rows) ≡ map {B = ℕ} (λ (r : Symbol × ℕ). r.1) (placed_from next rows)
same_starts parts next [] h = refl
same_starts parts next (r ∷ rows) h =
    let here = rounded_same next r.1.alignment h.0 in
    (λ j. here j ∷ starts_from (here j + r.1.size + 16) (map (plans.variable_of parts) rows))
    ∙ ap (λ (l : List ℕ). next_multiple_of next r.1.alignment ∷ l) (same_starts parts (next_multiple_of next r.1.alignment + r.1.size + 16) rows h.1)

module _ (a : Lists) (well_formed : IsWellFormed (module_of a)) (valid : IsValid (module_of a)) where
  abbrev parts : List Module
  parts = module_of a ∷ []

  abbrev its_row : Variable → Row
  its_row v = row_of a well_formed valid v

  -- what holds of the row of each variable that is defined
  rows_have : (P : Row → Type 0) → ((k : ℕ) (v : Variable) → slice_get a.variables k ≡ Some v → P (its_row v)) → AllByRecursion P (rooms parts)
  rows_have P h =
      subst (AllByRecursion P) (sym (rooms_are a well_formed valid))
      (mapped (filter is_defined a.variables) (all_kept_have (λ v. P (its_row v)) is_defined a.variables (all_from_places (λ v. is_defined v ≡ true → P (its_row v)) a.variables (λ k v at is. h k v at))))
    where
      mapped : (vs : List Variable) → AllByRecursion (λ v. P (its_row v)) vs → AllByRecursion P (map its_row vs)
      mapped [] k = tt
      mapped (v ∷ vs) k = (k.0, mapped vs k.1)

  behind : AllByRecursion (λ (r : Row). bind.behind parts r.0 ≡ r.0) (rooms parts)
  behind = rows_have (λ (r : Row). bind.behind parts r.0 ≡ r.0) (λ k v at. variable_behind a well_formed valid k v at)

  some : AllByRecursion (λ (r : Row). 1 ≤ r.1.alignment) (rooms parts)
  some = rows_have (λ (r : Row). 1 ≤ r.1.alignment) (λ k v at. (alignment_bounded a k v at valid).0)

  followed : (P Q : Row → Type 0) (xs : List Row) → ((x : Row) → P x → Q x) → AllByRecursion P xs → AllByRecursion Q xs
  followed P Q [] f h = tt
  followed P Q (x ∷ xs) f h = (f x h.0, followed P Q xs f h.1)

  row_starts : map {B = ℕ} (λ (r : Row). unwrap_or (address parts r.0) 0) (rooms parts) ≡ map {B = ℕ} (λ (r : Symbol × ℕ). r.1) (placed_from 65536 (rooms parts))
  row_starts =
      same_maps (λ (r : Row). unwrap_or (address parts r.0) 0) (λ (r : Row). unwrap_or (lookup (same_symbol r.0) (placed_from 65536 (rooms parts) ++ addressed_from 0 (function_symbols parts))) 0) (rooms parts)
      (followed (λ (r : Row). bind.behind parts r.0 ≡ r.0) (λ (r : Row). unwrap_or (address parts r.0) 0 ≡ unwrap_or (lookup (same_symbol r.0) (placed_from 65536 (rooms parts) ++ addressed_from 0 (function_symbols parts))) 0) (rooms parts)
      (λ r h. ap (λ x. unwrap_or (lookup (same_symbol x) (place parts)) 0) h) behind)
      ∙ found_starts 65536 (rooms parts) (addressed_from 0 (function_symbols parts)) (rooms_unlike a well_formed valid)

  pub are_placed : (m : Blocks) → with_variables (plans.plan parts).variables no_blocks ≡ Ok m → ArePlaced a m
  are_placed m e =
      let made = variables_made (plans.plan parts).variables no_blocks m e in
      let long = made.long in
      let many = length-map (rooms parts) (plans.variable_of parts) in
      record {
        unsealed = made.sealed;
        many = omega (arith, long, many);
        fresh = λ spots are j s at.
            let here : 0 + j ≡ j = omega arith in
            let v = ap (λ l. slice_get l j) (sym are.variables) ∙ mapped_at needs spots j s at in
            let start = ap (λ l. slice_get l j) (same_starts parts 65536 (rooms parts) some ∙ sym row_starts ∙ sym are.starts) ∙ mapped_at (λ (x : Spot). x.start) spots j s at in
            ap (slice_get m.list) (sym here) ∙ made.new j s.start (needs s) v start;
      }
