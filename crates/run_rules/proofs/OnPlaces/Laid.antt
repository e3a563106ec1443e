-- The bodies of a valid module are laid out well.
use Rattle.std.proofs.Common.{◌≡◌, ℕ, zero, suc, ◌+◌, ◌≤◌, List, [], ◌∷◌, ◌++◌, length, map, take, flat_map, fold, refl, sym, ap, ◌∙◌, subst, arith, Bool, true, false, ◌&&◌, ◌||◌, ◌==◌, Option, Some, None, is_some, true≢false, cond, eqb-true}
use Rattle.std.specs.Prelude.{slice_get}
use Rattle.std.specs.List.{list_all, list_any}
use Rattle.std.specs.Option.{option_map_or}
use Rattle.std.proofs.lemmas.Bool.{and_parts}
use Rattle.std.proofs.lemmas.Option.{same_Some}
use Rattle.module_arena.specs.Module.{LocalName, Incoming, Operation, Instruction, Block, Function, Module}
use Rattle.module_arena.specs.Flow.{flow_of, predecessors}
use Rattle.module_arena.specs.Forms.{is_not_empty, is_instruction_of_phrase, is_operation_of_phrase, has_result_of_phrase}
use Rattle.module_arena.specs.Functions.{body, blocks}
use Rattle.module_arena.specs.InstructionRules as rules
use Rattle.module_arena.specs.InstructionRules.{count_local, same_names, entries_agree}
use Rattle.module_arena.specs.Names.{has_good_names, knows_its_names, blocks_of_block, locals_of_block, value_names, is_local_name, local_names, is_numbered_from, is_numbered_as_declared, blocks_of_operation}
use Rattle.module_arena.specs.Operations.{operands, ending_operands, targets}
use Rattle.module_arena.specs.Same.{same_local, has_local}
use Rattle.module_arena.specs.Valid.{IsValid, AllHold, entry_demands, blocks_demands, operation_phi_suits}
use Rattle.module_arena.specs.WellFormed.{IsWellFormed, is_good_function, is_good_block, is_good_type, are_good_operands, types_of_operation}
use Rattle.module_arena.proofs.Parts.{valid_function, valid_blocks, valid_block, valid_instruction}
use Rattle.module_arena.proofs.SameNames.{same_self}
use Rattle.ir_tables.specs.Table.{is_distinct}
use Rattle.run_rules.specs.Resolve.{is_phi}
use Rattle.run_rules.proofs.OnPlaces.Options.{none_some}
use Rattle.run_rules.proofs.OnPlaces.Search.{all_at}

-- the instruction is a phi
abbrev pub is_phi_instruction : Instruction → Bool
is_phi_instruction i = is_phi i.operation

-- phis stand first in their blocks, blocks lead to blocks, and the first block has an instruction or end that is no phi
pub record IsLaidOut (bs : List Block) : Type 0 where
  pub phis_first : (k : ℕ) (b : Block) (j : ℕ) (i : Instruction) → slice_get bs k ≡ Some b → slice_get b.instructions j ≡ Some i
      → is_phi_instruction i ≡ true → list_all is_phi_instruction (take j b.instructions) ≡ true
  pub leads : (k : ℕ) (b : Block) → slice_get bs k ≡ Some b → list_all (λ name. list_any (λ c. same_local c.name name) bs) (targets b.ending) ≡ true
  pub first : (b : Block) × (slice_get bs 0 ≡ Some b) × ((i : Instruction) → slice_get b.instructions 0 ≡ Some i → is_phi_instruction i ≡ false)

-- ---- lists

module _ {X Y : Type 0} where
  all_of_part : (p : Y → Bool) (g : X → List Y) (xs : List X) (k : ℕ) (x : X) → list_all p (flat_map g xs) ≡ true → slice_get xs k ≡ Some x → list_all p (g x) ≡ true
  all_of_part p g [] k x h e = none_some x e
  all_of_part p g (y ∷ ys) zero x h e = subst (λ z. list_all p (g z) ≡ true) (same_Some y x e) (front p (g y) (flat_map g ys) h)
    where
      front : (p : Y → Bool) (as_ bs : List Y) → list_all p (as_ ++ bs) ≡ true → list_all p as_ ≡ true
      front p [] bs h = refl
      front p (a ∷ as_) bs h = let q = and_parts (p a) (list_all p (as_ ++ bs)) h in ap (λ t. t && list_all p as_) q.0 ∙ front p as_ bs q.1
  all_of_part p g (y ∷ ys) (suc k) x h e = all_of_part p g ys k x (back p (g y) (flat_map g ys) h) e
    where
      back : (p : Y → Bool) (as_ bs : List Y) → list_all p (as_ ++ bs) ≡ true → list_all p bs ≡ true
      back p [] bs h = h
      back p (a ∷ as_) bs h = back p as_ bs (and_parts (p a) (list_all p (as_ ++ bs)) h).1

  pub any_of_mapped : (p : Y → Bool) (g : X → Y) (xs : List X) → list_any p (map g xs) ≡ list_any (λ x. p (g x)) xs
  any_of_mapped p g [] = refl
  any_of_mapped p g (x ∷ xs) = ap (λ t. p (g x) || t) (any_of_mapped p g xs)

module _ {X : Type 0} where
  all_behind : (p : X → Bool) (xs ys : List X) → list_all p (xs ++ ys) ≡ true → list_all p ys ≡ true
  all_behind p [] ys h = h
  all_behind p (x ∷ xs) ys h = all_behind p xs ys (and_parts (p x) (list_all p (xs ++ ys)) h).1

  all_alike : (p q : X → Bool) (xs : List X) → ((x : X) → p x ≡ q x) → list_all p xs ≡ list_all q xs
  all_alike p q [] h = refl
  all_alike p q (x ∷ xs) h = ap (λ t. t && list_all p xs) (h x) ∙ ap (λ t. q x && t) (all_alike p q xs h)

  sum_grows : (g : X → ℕ) (n : ℕ) (xs : List X) → n ≤ fold (λ a x. a + g x) n xs
  sum_grows g n [] = omega arith
  sum_grows g n (x ∷ xs) = let more = sum_grows g (n + g x) xs in omega (arith, more)

-- ---- phis

phi_is_phi : (o : Operation) → rules.is_phi_operation o ≡ is_phi o
phi_is_phi (Operation.Phi ty incoming) = refl
phi_is_phi _ = refl

phis_are_phis : (is : List Instruction) → list_all rules.is_phi is ≡ list_all is_phi_instruction is
phis_are_phis is = all_alike rules.is_phi is_phi_instruction is (λ i. phi_is_phi i.operation)

-- a phi that suits stands behind phis, and not where nothing leads
front_of_phi : (f : Function) (b : Block) (j : ℕ) (o : Operation) → is_phi o ≡ true → operation_phi_suits f b j o ≡ true → list_all is_phi_instruction (take j b.instructions) ≡ true
front_of_phi f b j (Operation.Phi ty incoming) e h =
    sym (phis_are_phis (take j b.instructions)) ∙ (and_parts (list_all rules.is_phi (take j b.instructions)) (same_names (map (λ (i : Incoming). i.block) incoming) (predecessors (flow_of f) b.name) && entries_agree incoming) h).0
front_of_phi f b j _ e h = absurd (true≢false (sym e))

some_counted : (a : LocalName) (others : List LocalName) → 1 ≤ count_local (a ∷ others) a
some_counted a others =
    let grows = sum_grows (λ n. cond (same_local n a) 1 0) (0 + cond (same_local a a) 1 0) others in
    let weigh : Bool → ℕ = λ t. cond t 1 0 in
    let one : weigh (same_local a a) ≡ weigh true = ap weigh (same_self a) in
    omega (arith, grows, one)

no_names : (names preds : List LocalName) → is_not_empty names ≡ true → length preds ≡ 0 → same_names names preds ≡ true → ⊥
no_names [] preds some none h = true≢false (sym some)
no_names (a ∷ others) (p ∷ preds) some none h = absurd (omega (arith, none))
no_names (a ∷ others) [] some none h =
    let q = and_parts (count_local (a ∷ others) a == count_local [] a) (list_all (λ name. count_local (a ∷ others) name == count_local [] name) (others ++ [])) h in
    let same : count_local (a ∷ others) a ≡ 0 = eqb-true (count_local (a ∷ others) a) 0 q.0 in
    let one = some_counted a others in
    absurd (omega (arith, same, one))

not_empty_mapped : (is : List Incoming) → is_not_empty is ≡ true → is_not_empty (map (λ (i : Incoming). i.block) is) ≡ true
not_empty_mapped [] h = h
not_empty_mapped (i ∷ is) h = refl

no_phi_at_entry : (f : Function) (b : Block) (o : Operation) (t : Bool) → is_phi o ≡ t → length (predecessors (flow_of f) b.name) ≡ 0 → is_operation_of_phrase o ≡ true → operation_phi_suits f b 0 o ≡ true → is_phi o ≡ false
no_phi_at_entry f b o false e none phrase h = e
no_phi_at_entry f b (Operation.Phi ty incoming) true e none phrase h =
    let names = map (λ (i : Incoming). i.block) incoming in
    let q = and_parts (list_all rules.is_phi (take 0 b.instructions)) (same_names names (predecessors (flow_of f) b.name) && entries_agree incoming) h in
    absurd (no_names names (predecessors (flow_of f) b.name) (not_empty_mapped incoming phrase) none (and_parts (same_names names (predecessors (flow_of f) b.name)) (entries_agree incoming) q.1).0)
no_phi_at_entry f b o true e none phrase h = absurd (true≢false (sym e))

-- ---- a function of a valid module

module _ (m : Module) (well_formed : IsWellFormed m) (valid : IsValid m) (n : ℕ) (f : Function) (is : slice_get m.functions n ≡ Some f) where
  good : is_good_function m f ≡ true
  good = all_at (is_good_function m) m.functions n f well_formed.functions is

  good_rest : (option_map_or is_not_empty f.body true && (has_good_names f && list_all (is_good_block m) (blocks f))) ≡ true
  good_rest =
      let q = and_parts (is_good_type m.structs f.returns) (list_all (λ p. is_good_type m.structs p.ty) f.parameters && (option_map_or is_not_empty f.body true && (has_good_names f && list_all (is_good_block m) (blocks f)))) good in
      (and_parts (list_all (λ p. is_good_type m.structs p.ty) f.parameters) (option_map_or is_not_empty f.body true && (has_good_names f && list_all (is_good_block m) (blocks f))) q.1).1

  some_blocks : option_map_or is_not_empty f.body true ≡ true
  some_blocks = (and_parts (option_map_or is_not_empty f.body true) (has_good_names f && list_all (is_good_block m) (blocks f)) good_rest).0

  names_and_blocks : (has_good_names f ≡ true) × (list_all (is_good_block m) (blocks f) ≡ true)
  names_and_blocks =
      let q = and_parts (has_good_names f) (list_all (is_good_block m) (blocks f)) (and_parts (option_map_or is_not_empty f.body true) (has_good_names f && list_all (is_good_block m) (blocks f)) good_rest).1 in
      (q.0, q.1)

  of_phrase : (k : ℕ) (b : Block) (j : ℕ) (i : Instruction) → slice_get (blocks f) k ≡ Some b → slice_get b.instructions j ≡ Some i → is_operation_of_phrase i.operation ≡ true
  of_phrase k b j i e g =
      let block = all_at (is_good_block m) (blocks f) k b names_and_blocks.1 e in
      let test : Instruction → Bool = λ i. is_instruction_of_phrase i && (are_good_operands m (operands i.operation) && list_all (is_good_type m.structs) (types_of_operation i.operation)) in
      let all = (and_parts (list_all test b.instructions) (are_good_operands m (ending_operands b.ending)) block).0 in
      let one = and_parts (is_instruction_of_phrase i) (are_good_operands m (operands i.operation) && list_all (is_good_type m.structs) (types_of_operation i.operation)) (all_at test b.instructions j i all g) in
      (and_parts (is_operation_of_phrase i.operation) (has_result_of_phrase i.operation (is_some i.result)) one.0).0

  demanded : AllHold (entry_demands f (blocks f)) × AllHold (blocks_demands m f 0 (blocks f))
  demanded = valid_blocks m f (valid_function m n f valid is)

  phi_demanded : (k : ℕ) (b : Block) (j : ℕ) (i : Instruction) → slice_get (blocks f) k ≡ Some b → slice_get b.instructions j ≡ Some i → operation_phi_suits f b j i.operation ≡ true
  phi_demanded k b j i e g =
      let block = valid_block m f 0 (blocks f) k b demanded.1 e in
      let h = valid_instruction m f b 0 block.0 b.instructions j i block.1 g in
      let same : 0 + j ≡ j = omega arith in
      subst (λ q. operation_phi_suits f b q i.operation ≡ true) same h.1.1.1.0

  leads_to_blocks : (k : ℕ) (b : Block) → slice_get (blocks f) k ≡ Some b → list_all (λ name. list_any (λ c. same_local c.name name) (blocks f)) (targets b.ending) ≡ true
  leads_to_blocks k b e =
      let q = and_parts (list_all is_local_name (local_names f)) (is_distinct same_local (local_names f) && (is_numbered_from 0 (local_names f) && (is_numbered_as_declared f && knows_its_names f))) names_and_blocks.0 in
      let r = and_parts (is_distinct same_local (local_names f)) (is_numbered_from 0 (local_names f) && (is_numbered_as_declared f && knows_its_names f)) q.1 in
      let s = and_parts (is_numbered_from 0 (local_names f)) (is_numbered_as_declared f && knows_its_names f) r.1 in
      let t = and_parts (is_numbered_as_declared f) (knows_its_names f) s.1 in
      let known : LocalName → Bool = has_local (map (λ (block : Block). block.name) (blocks f)) in
      let u = and_parts (list_all (has_local (value_names f)) (flat_map locals_of_block (blocks f))) (list_all known (flat_map blocks_of_block (blocks f))) t.1 in
      let mine = all_of_part known blocks_of_block (blocks f) k b u.1 e in
      let targeted = all_behind known (flat_map (λ (i : Instruction). blocks_of_operation i.operation) b.instructions) (targets b.ending) mine in
      sym (all_alike known (λ name. list_any (λ c. same_local c.name name) (blocks f)) (targets b.ending) (λ name. any_of_mapped (λ x. same_local x name) (λ (block : Block). block.name) (blocks f))) ∙ targeted

  first_of : (bs : List Block) → is_not_empty bs ≡ true → (b : Block) × (slice_get bs 0 ≡ Some b)
  first_of [] h = absurd (true≢false (sym h))
  first_of (b ∷ bs) h = (b, refl)

  no_way_in : (bs : List Block) (b : Block) → AllHold (entry_demands f bs) → slice_get bs 0 ≡ Some b → length (predecessors (flow_of f) b.name) ≡ 0
  no_way_in [] b h e = none_some b e
  no_way_in (c ∷ bs) b h e = subst (λ (z : Block). length (predecessors (flow_of f) z.name) ≡ 0) (same_Some c b e) (eqb-true (length (predecessors (flow_of f) c.name)) 0 h.0)

  pub laid_out : is_some f.body ≡ true → IsLaidOut (blocks f)
  laid_out defined =
      let b = first_of (blocks f) (not_empty f.body defined some_blocks) in
      record {
        phis_first = λ k b j i e g phi. front_of_phi f b j i.operation phi (phi_demanded k b j i e g);
        leads = leads_to_blocks;
        first = (b.0, b.1, λ i g. no_phi_at_entry f b.0 i.operation (is_phi i.operation) refl (no_way_in (blocks f) b.0 demanded.0 b.1) (of_phrase 0 b.0 0 i b.1 g) (phi_demanded 0 b.0 0 i b.1 g));
      }
    where
      not_empty : (o : Option (List Block)) → is_some o ≡ true → option_map_or is_not_empty o true ≡ true → is_not_empty (body o) ≡ true
      not_empty None d h = absurd (true≢false (sym d))
      not_empty (Some bs) d h = h
