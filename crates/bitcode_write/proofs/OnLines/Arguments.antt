-- The arguments of a call.
use Rattle.std.proofs.Common.{◌≡◌, ℕ, zero, suc, ◌+◌, ◌<◌, ◌≤◌, List, [], ◌∷◌, ◌++◌, length, drop, get_or, map, append_assoc, refl, sym, ap, ◌∙◌, subst, arith}
use Rattle.std.proofs.lemmas.List.{at_drop_more, at_drop_all, append-nil, length-map, get_or-map}
use Rattle.type_table.specs.Tree.{Tree, void}
use Rattle.type_table.specs.Types.{tree}
use Rattle.module_arena.specs.declared.entry.Function.{Function}
use Rattle.module_arena.specs.declared.instruction.Operand.{Operand}
use Rattle.module_arena.specs.Lists.{Lists}
use Rattle.record_table.specs.Lines.{spell_arguments}
use Rattle.record_write.specs.Operands.Numbered.{inside, operand_of}
use Rattle.record_write.specs.Operands.Wide.{HasValueAt, HasOperandIn, ArgumentStandsIn, AreArgumentsIn}
use Rattle.bitcode_write.specs.Lines.Parts.{argument_operands, operand_operands, value_operands}

abbrev no_types : List Tree
no_types = []

drop_one : (k : ℕ) (xs : List Tree) → drop 1 (drop k xs) ≡ drop (k + 1) xs
drop_one zero xs = refl
drop_one (suc k) [] = let e : suc (k + 1) ≡ suc k + 1 = omega arith in ap (λ (n : ℕ). drop n no_types) e
drop_one (suc k) (x ∷ xs) = let e : suc (k + 1) ≡ suc k + 1 = omega arith in drop_one k xs ∙ ap (λ (n : ℕ). drop n (x ∷ xs)) e

module _ (a : Lists) (f : Function) where
  -- where there is a parameter
  pub argument_at : (ps : List ℕ) (place ty : ℕ) (x : Operand) → place < length ps → ty ≡ get_or ps place ty → ArgumentStandsIn a f (drop place (map (tree a.table) ps)) x
      → HasValueAt a f (tree a.table ty) x.value × (value_operands a f (tree a.table ty) x.value ≡ argument_operands a f (drop place (map (tree a.table) ps)) x)
  argument_at ps place ty x lt is has =
      let ts = map (tree a.table) ps in
      let many = length-map ps (tree a.table) in
      let here : drop place ts ≡ tree a.table ty ∷ drop (place + 1) ts =
      at_drop_more (λ (us : List Tree). us) ts place void (omega (arith, many, lt))
      ∙ ap (λ (t : Tree). t ∷ drop (place + 1) ts) (get_or-map (tree a.table) ps place ty void lt ∙ ap (tree a.table) (sym is)) in
      (subst (λ (us : List Tree). ArgumentStandsIn a f us x) here has, ap (λ (us : List Tree). argument_operands a f us x) (sym here))

  -- and behind the last of them
  pub argument_behind : (ps : List ℕ) (place : ℕ) (x : Operand) → length ps ≤ place → ArgumentStandsIn a f (drop place (map (tree a.table) ps)) x
      → HasOperandIn a f x × (operand_operands a f x ≡ argument_operands a f (drop place (map (tree a.table) ps)) x)
  argument_behind ps place x le has =
      let ts = map (tree a.table) ps in
      let many = length-map ps (tree a.table) in
      let here : drop place ts ≡ [] = at_drop_all (λ (us : List Tree). us) ts place (omega (arith, many, le)) in
      (subst (λ (us : List Tree). ArgumentStandsIn a f us x) here has, ap (λ (us : List Tree). argument_operands a f us x) (sym here))

  spell_more : (ts : List Tree) (x : Operand) (xs : List Operand) → spell_arguments (inside a f) ts (map (operand_of a f) (x ∷ xs)) ≡ argument_operands a f ts x ++ spell_arguments (inside a f) (drop 1 ts) (map (operand_of a f) xs)
  spell_more [] x xs = refl
  spell_more (t ∷ ts) x xs = refl

  -- what is left from a place on
  abbrev pub arguments_from : List Tree → List Operand → ℕ → List ℕ
  arguments_from ts xs k = spell_arguments (inside a f) (drop k ts) (map (operand_of a f) (drop k xs))

  pub first_stands : (ts : List Tree) (xs : List Operand) (k : ℕ) (x : Operand) → k < length xs → x ≡ get_or xs k x → AreArgumentsIn a f (drop k ts) (drop k xs) → ArgumentStandsIn a f (drop k ts) x × AreArgumentsIn a f (drop (k + 1) ts) (drop (k + 1) xs)
  first_stands ts xs k x lt is all =
      let here : drop k xs ≡ x ∷ drop (k + 1) xs = at_drop_more (λ (us : List Operand). us) xs k x lt ∙ ap (λ (y : Operand). y ∷ drop (k + 1) xs) (sym is) in
      let both = subst (λ (us : List Operand). AreArgumentsIn a f (drop k ts) us) here all in
      (both.0, subst (λ (us : List Tree). AreArgumentsIn a f us (drop (k + 1) xs)) (drop_one k ts) both.1)

  pub arguments_more : (ts : List Tree) (xs : List Operand) (k : ℕ) (x : Operand) (now next whole : List ℕ) → k < length xs → x ≡ get_or xs k x → now ++ arguments_from ts xs k ≡ whole → next ≡ now ++ argument_operands a f (drop k ts) x → next ++ arguments_from ts xs (k + 1) ≡ whole
  arguments_more ts xs k x now next whole lt is before step =
      let here : drop k xs ≡ x ∷ drop (k + 1) xs = at_drop_more (λ (us : List Operand). us) xs k x lt ∙ ap (λ (y : Operand). y ∷ drop (k + 1) xs) (sym is) in
      let more : arguments_from ts xs k ≡ argument_operands a f (drop k ts) x ++ arguments_from ts xs (k + 1) =
      ap (λ (us : List Operand). spell_arguments (inside a f) (drop k ts) (map (operand_of a f) us)) here
      ∙ spell_more (drop k ts) x (drop (k + 1) xs)
      ∙ ap (λ (us : List Tree). argument_operands a f (drop k ts) x ++ spell_arguments (inside a f) us (map (operand_of a f) (drop (k + 1) xs))) (drop_one k ts) in
      ap (λ (l : List ℕ). l ++ arguments_from ts xs (k + 1)) step
      ∙ append_assoc now (argument_operands a f (drop k ts) x) (arguments_from ts xs (k + 1))
      ∙ ap (λ (l : List ℕ). now ++ l) (sym more)
      ∙ before

  pub arguments_end : (ts : List Tree) (xs : List Operand) (k : ℕ) (now whole : List ℕ) → length xs ≤ k → now ++ arguments_from ts xs k ≡ whole → now ≡ whole
  arguments_end ts xs k now whole le before =
      sym (append-nil now) ∙ ap (λ (l : List ℕ). now ++ l) (sym (ap (λ (us : List Operand). spell_arguments (inside a f) (drop k ts) (map (operand_of a f) us)) (at_drop_all (λ (us : List Operand). us) xs k le))) ∙ before
