-- What one index of a `getelementptr` leads over, and the indices behind it.
use Rattle.std.proofs.Common.{◌≡◌, ℕ, suc, ◌+◌, ◌<◌, ◌≤◌, true, false, List, [], ◌∷◌, ◌++◌, append_assoc, append-nil, length, drop, get_or, map, Some, None, refl, sym, ap, ◌∙◌, arith, unwrap_or, true≢false}
use Rattle.std.proofs.Math.Seq.{drop-cons}
use Rattle.std.proofs.lemmas.List.{drop_all, map-append}
use Rattle.ir_eval.specs.declared.value.Scalar.TheVariants as scalar
use Rattle.module_arena.specs.declared.instruction.Operand.{Operand}
use Rattle.type_table.specs.Layout.{size}
use Rattle.type_table.specs.Shape.{Shape, int_leaf, ptr_leaf, void_leaf, opaque_leaf, array_of, struct_of}
use Rattle.run_rules.specs.Action as actions
use Rattle.run_rules.specs.Displace.{TermIndex, inner_term, inner_terms, number_in, terms_of}
use Rattle.run_rules.specs.Leaves.{element}
use Rattle.run_names.specs.Shapes.Shapes.{elements_of, is_struct, offset_in}
use Rattle.run_decode.specs.declared.operands.steps.Step.{Step}
use Rattle.run_decode.specs.Operands.Steps.{term_of}

pub over_elements : (s part : Shape) (i : TermIndex) → Some part ≡ elements_of s → record { index = i.origin; width = i.width; size = size part } ≡ inner_term s i
over_elements (array_of n s) part i e = let same : part ≡ s = cc in ap (λ (x : Shape). record { index = i.origin; width = i.width; size = size x }) same
over_elements (int_leaf w) part i e = absurd cc
over_elements ptr_leaf part i e = absurd cc
over_elements void_leaf part i e = absurd cc
over_elements (opaque_leaf label) part i e = absurd cc
over_elements (struct_of label packed ss) part i e = absurd cc

pub to_field : (s : Shape) (i : TermIndex) → is_struct s ≡ true → record { index = actions.Known (scalar.Int (unwrap_or (offset_in s (number_in i)) 0)); width = 64; size = 1 } ≡ inner_term s i
to_field (struct_of label packed ss) i h = refl
to_field (array_of n s) i h = absurd (true≢false (sym h))
to_field (int_leaf w) i h = absurd (true≢false (sym h))
to_field ptr_leaf i h = absurd (true≢false (sym h))
to_field void_leaf i h = absurd (true≢false (sym h))
to_field (opaque_leaf label) i h = absurd (true≢false (sym h))

pub nowhere : (s : Shape) (i : TermIndex) → None ≡ elements_of s → is_struct s ≡ false → record { index = actions.Known (scalar.Int 0); width = 64; size = 0 } ≡ inner_term s i
nowhere (struct_of label packed ss) i e h = absurd (true≢false h)
nowhere (array_of n s) i e h = absurd cc
nowhere (int_leaf w) i e h = refl
nowhere ptr_leaf i e h = refl
nowhere void_leaf i e h = refl
nowhere (opaque_leaf label) i e h = refl

-- all indices lead as if the values that the first counts were the elements of an array
pub whole_first : (s : Shape) (is : List TermIndex) → inner_terms (array_of 0 s) is ≡ terms_of s is
whole_first s [] = refl
whole_first s (i ∷ is) = refl

pub one_further : (idx : Operand → TermIndex) (os : List Operand) (k : ℕ) (x d : Operand) (s next : Shape) (now new : List Step) (step : Step) (all : List actions.Term) → k < length os → x ≡ get_or os k d
    → term_of step ≡ inner_term s (idx x) → next ≡ element s (number_in (idx x)) → new ≡ now ++ step ∷ []
    → map term_of now ++ inner_terms s (map idx (drop k os)) ≡ all → map term_of new ++ inner_terms next (map idx (drop (k + 1) os)) ≡ all
one_further idx os k x d s next now new step all lt is term shape e h =
    let count : suc k ≡ k + 1 = omega arith in
    let rest = map idx (drop (k + 1) os) in
    let behind : drop k os ≡ x ∷ drop (k + 1) os = drop-cons os k d lt ∙ (λ j. sym is j ∷ drop (count j) os) in
    (λ j. (ap (map term_of) e ∙ map-append term_of now (step ∷ [])) j ++ inner_terms (shape j) rest)
    ∙ append_assoc (map term_of now) (term_of step ∷ []) (inner_terms (element s (number_in (idx x))) rest)
    ∙ ap (λ (t : actions.Term). map term_of now ++ t ∷ inner_terms (element s (number_in (idx x))) rest) term
    ∙ ap (λ (l : List Operand). map term_of now ++ inner_terms s (map idx l)) (sym behind)
    ∙ h

pub at_end : (idx : Operand → TermIndex) (os : List Operand) (k : ℕ) (s source : Shape) (old now : List Step) → length os ≤ k
    → map term_of now ++ inner_terms s (map idx (drop k os)) ≡ map term_of old ++ inner_terms (array_of 0 source) (map idx os) → map term_of now ≡ map term_of old ++ terms_of source (map idx os)
at_end idx os k s source old now le h =
    sym (append-nil (map term_of now))
    ∙ ap (λ (l : List Operand). map term_of now ++ inner_terms s (map idx l)) (sym (drop_all k os le))
    ∙ h
    ∙ ap (λ (l : List actions.Term). map term_of old ++ l) (whole_first source (map idx os))
