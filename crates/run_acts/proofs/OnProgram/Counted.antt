-- The leaves of types and of what instructions give, and how they add up.
use Rattle.std.proofs.Common.{◌≡◌, ℕ, ◌+◌, ◌<◌, ◌≤◌, List, [], ◌∷◌, ◌++◌, length, drop, get_or, map, fold, Option, Some, None, option_to_list, refl, sym, ap, ◌∙◌}
use Rattle.std.specs.Option.{option_map, option_map_or}
use Rattle.std.proofs.lemmas.List.{at_drop_all, at_drop_more}
use Rattle.module_arena.specs.declared.entry.Function.{Function}
use Rattle.module_arena.specs.declared.instruction.Inst.{Inst}
use Rattle.module_arena.specs.declared.instruction.Inst.TheVariants as inst
use Rattle.module_arena.specs.Lists.{Lists}
use Rattle.module_arena.specs.Mentions as mentions
use Rattle.module_arena.specs.Module.{LocalName}
use Rattle.run_initial.specs.Constants.Sound.{names_of}
use Rattle.run_rules.specs.Scope.{Typed, result_of, result_shape}
use Rattle.type_table.specs.Layout as layouts
use Rattle.run_decode.specs.Scopes.Places.{end_from}
use Rattle.run_decode.specs.Scopes.Scopes.{instruction_of, name_of}
use Rattle.run_decode.proofs.OnScopes.Shaped.{one_result, no_result, own_result}
use Rattle.run_decode.proofs.OnScopes.Added.{end_append}

-- ---- results

module _ (a : Lists) (f : Function) where
  result_viewed : (i : Inst) (o : Option ℕ) → option_to_list o ≡ mentions.result_of i → (instruction_of a f i).result ≡ option_map (name_of a f) o
  result_viewed (inst.Binary opcode flags result left right) o e = one_result (name_of a f) result o e
  result_viewed (inst.Compare flags predicate result left right) o e = one_result (name_of a f) result o e
  result_viewed (inst.Convert opcode flags result operand to) o e = one_result (name_of a f) result o e
  result_viewed (inst.Select result choice) o e = one_result (name_of a f) result o e
  result_viewed (inst.Freeze result operand) o e = one_result (name_of a f) result o e
  result_viewed (inst.Phi result ty incoming) o e = one_result (name_of a f) result o e
  result_viewed (inst.Load flags result ty address alignment) o e = one_result (name_of a f) result o e
  result_viewed (inst.Store flags stored address alignment) o e = no_result (name_of a f) o e
  result_viewed (inst.Alloca result ty count alignment) o e = one_result (name_of a f) result o e
  result_viewed (inst.GetElementPtr flags result source base indices) o e = one_result (name_of a f) result o e
  result_viewed (inst.Call call) o e = own_result (name_of a f) o call.result e
  result_viewed (inst.ExtractValue result aggregate indices) o e = one_result (name_of a f) result o e
  result_viewed (inst.InsertValue result insertion) o e = one_result (name_of a f) result o e

  -- so many leaves and those of what an instruction gives
  pub with_result : (i : Inst) (o : Option ℕ) (before end : ℕ) → option_to_list o ≡ mentions.result_of i
      → option_map_or (λ (r : ℕ). before + layouts.leaves (result_shape (names_of a) (instruction_of a f i).operation)) o before ≡ end → end ≡ end_from before (result_of (names_of a) (instruction_of a f i))
  with_result i o before end e is = sym is ∙ go o ∙ ap (λ (p : Option LocalName). end_from before (option_map_or {U = List Typed} (λ (name : LocalName). (name, result_shape (names_of a) (instruction_of a f i).operation) ∷ []) p [])) (sym (result_viewed i o e))
    where
      go : (o : Option ℕ) → option_map_or (λ (r : ℕ). before + layouts.leaves (result_shape (names_of a) (instruction_of a f i).operation)) o before
          ≡ end_from before (option_map_or {U = List Typed} (λ (name : LocalName). (name, result_shape (names_of a) (instruction_of a f i).operation) ∷ []) (option_map (name_of a f) o) [])
      go None = refl
      go (Some r) = refl

-- ---- sums

end_summed : (place : ℕ) (xs : List Typed) → end_from place xs ≡ fold (λ (n m : ℕ). n + m) place (map (λ (x : Typed). layouts.leaves x.1) xs)
end_summed place [] = refl
end_summed place (x ∷ xs) = end_summed (place + layouts.leaves x.1) xs

-- a list that is counted item by item
module _ {A : Type 0} (all : List A → List Typed) (one : A → List Typed) (more : (x : A) (xs : List A) → all (x ∷ xs) ≡ one x ++ all xs) where
  -- one item more
  pub counted_more : (items xs : List A) → items ≡ xs → (k : ℕ) (x : A) (now next whole : ℕ) → k < length items → x ≡ get_or items k x → end_from now (all (drop k xs)) ≡ whole → next ≡ end_from now (one x) → end_from next (all (drop (k + 1) xs)) ≡ whole
  counted_more items xs same k x now next whole lt is before step =
      ap (λ (n : ℕ). end_from n (all (drop (k + 1) xs))) step
      ∙ sym (end_append now (one x) (all (drop (k + 1) xs)))
      ∙ ap (end_from now) (sym (more x (drop (k + 1) xs)))
      ∙ ap (λ (ys : List A). end_from now (all (x ∷ drop (k + 1) ys))) (sym same)
      ∙ ap (λ (y : A). end_from now (all (y ∷ drop (k + 1) items))) is
      ∙ sym (at_drop_more (λ (ys : List A). end_from now (all ys)) items k x lt)
      ∙ ap (λ (ys : List A). end_from now (all (drop k ys))) same
      ∙ before

  -- none is left
  pub counted_all : all [] ≡ [] → (xs : List A) (k now whole : ℕ) → length xs ≤ k → end_from now (all (drop k xs)) ≡ whole → now ≡ whole
  counted_all none xs k now whole le before = sym (at_drop_all (λ (ys : List A). end_from now (all ys)) xs k le ∙ ap (end_from now) none) ∙ before

-- parameters, and results behind them
pub counted_both : (xs ys zs : List Typed) (middle end : ℕ) → middle ≡ end_from 0 xs → end ≡ end_from middle ys → xs ++ ys ≡ zs → end ≡ fold (λ (n m : ℕ). n + m) 0 (map (λ (x : Typed). layouts.leaves x.1) zs)
counted_both xs ys zs middle end first second same =
    second ∙ ap (λ (n : ℕ). end_from n ys) first ∙ sym (end_append 0 xs ys) ∙ end_summed 0 (xs ++ ys) ∙ ap (λ (l : List Typed). fold (λ (n m : ℕ). n + m) 0 (map (λ (x : Typed). layouts.leaves x.1) l)) same
