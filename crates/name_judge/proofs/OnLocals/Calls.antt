-- What is called next: by a name, by a number, or by none.
use Rattle.std.specs.Prelude.{◌≡◌, refl, ℕ, suc, ◌==◌, ◌+◌, Bool, true, false, cond, if◌then◌else◌, List, [], ◌∷◌, ◌++◌, map, flat_map, bytes_eq, Option, Some, None, Ok, Err}
use Rattle.std.proofs.Common.{ap, sym, subst, ◌∙◌, arith}
use Rattle.std.proofs.lemmas.List.{append-nil}
use Rattle.std.proofs.lemmas.Slice.Eq.{bytes_eq-Decides}
use Rattle.ir_base.specs.declared.place.Place.{Place}
use Rattle.ir_terminals.specs.declared.values.Local.{Local}
use Rattle.ir_terminals.specs.declared.values.Local.TheVariants as locals
use Rattle.ir_terminals.specs.declared.values.PlacedName.{PlacedName}
use Rattle.ir_phrases.specs.Instructions.Tree.{BlockTree}
use Rattle.ir_syntax.specs.Tree.{ParameterTree}
use Rattle.type_table.specs.Names.Entries.{value_of}
use Rattle.name_rules.specs.declared.fault.ResolveFault.{ResolveFault}
use Rattle.name_rules.specs.declared.fault.ResolveFault.TheVariants as faults
use Rattle.name_rules.specs.Demand.{ask, first_refusal, is_first, is_new, place_of_name}
use Rattle.name_rules.specs.FunctionDemands.{Called, none_called, called_with, called_after, call_demands, parameters_demands, blocks_demands, definition_demands}
use Rattle.name_rules.specs.Locals.{Locals, Announced, announced, announced_parameter, locals_from}
use Rattle.name_rules.specs.Spelled.{decimal}
use Rattle.name_rules.specs.TypeDemands.{Known}
use Rattle.type_judge.specs.Judging.{IsJudged}
use Rattle.type_judge.proofs.NamesGathered.{same_both}
use Rattle.name_judge.specs.declared.locals.called.CalledNames.{CalledNames}
use Rattle.name_judge.specs.Locals.Calling.{IsCalled, is_in_turn, Goes}
use Rattle.name_judge.proofs.OnLocals.Steps.{Answer, judged_front, judged_next, asked, goes_rest}

abbrev or_else : Option Place → Option Place → Option Place
or_else (Some p) o = Some p
or_else None o = o

or_none : (o : Option Place) → or_else o None ≡ o
or_none (Some p) = refl
or_none None = refl

-- the place of a name with one name more
place_append : (xs : List PlacedName) (w : PlacedName) (n : List ℕ) → place_of_name (xs ++ w ∷ []) n ≡ or_else (place_of_name xs n) (if bytes_eq w.name n then Some w.place else None)
place_append [] w n = refl
place_append (x ∷ xs) w n = by (bytes_eq x.name n) (place_append xs w n)
  where
    last : Option Place
    last = if bytes_eq w.name n then Some w.place else None

    by : (b : Bool) → place_of_name (xs ++ w ∷ []) n ≡ or_else (place_of_name xs n) last
        → (if b then Some x.place else place_of_name (xs ++ w ∷ []) n) ≡ or_else (if b then Some x.place else place_of_name xs n) last
    by true e = refl
    by false e = e

-- a new name
pub name_called : (old new : CalledNames) (name : PlacedName) → value_of old.names name.name ≡ None → new.next ≡ old.next
    → ((other : List ℕ) → value_of new.names other ≡ cond (bytes_eq other name.name) (Some name.place) (value_of old.names other))
    → Goes old new (λ b. is_new b.names name) (λ b. called_with b (false, Some (locals.Named name))) (Ok tt)
name_called old new name none e put = record {
  judged = λ b h. record { told = ap (λ o. first_refusal (is_first name.place o)) (sym (h.names name.name) ∙ none) };
  calls = λ b h. record { next = e ∙ h.next; names = λ n. put n ∙ more b h n (bytes_eq n name.name) refl };
}
  where
    more : (b : Called) → IsCalled old b → (n : List ℕ) (x : Bool) → bytes_eq n name.name ≡ x → cond x (Some name.place) (value_of old.names n) ≡ place_of_name (b.names ++ name ∷ []) n
    more b h n true e =
        let free : place_of_name b.names n ≡ None = sym (h.names n) ∙ ap (value_of old.names) ((bytes_eq-Decides n name.name).0 e) ∙ none in
        sym (place_append b.names name n ∙ (λ j. or_else (free j) (if (same_both name.name n ∙ e) j then Some name.place else None)))
    more b h n false e =
        h.names n
        ∙ sym (place_append b.names name n ∙ (λ j. or_else (place_of_name b.names n) (if (same_both name.name n ∙ e) j then Some name.place else None)) ∙ or_none (place_of_name b.names n))

-- a number that is the next one
pub number_called : (old new : CalledNames) (number : ℕ) (place : Place) (r : Answer) → IsJudged (ask (number == old.next) (faults.WrongNumber place old.next (decimal number)) ∷ []) (Ok tt)
    → Goes old new (λ b. []) (λ b. called_with b (false, None)) r → Goes old new (λ b. call_demands b (Some (locals.Numbered number place))) (λ b. called_with b (false, Some (locals.Numbered number place))) r
number_called old new number place r j g = record {
  judged = λ b h. judged_next _ [] r (subst (λ n. IsJudged (ask (number == n) (faults.WrongNumber place n (decimal number)) ∷ []) (Ok tt)) h.next j) (g.judged b h);
  calls = g.calls;
}

-- the next number is called
pub next_called : (old new : CalledNames) → new.next ≡ old.next + 1 → new.names ≡ old.names → Goes old new (λ b. []) (λ b. called_with b (false, None)) (Ok tt)
next_called old new e s = record {
  judged = λ b h. record { told = refl };
  calls = λ b h.
      let step : b.next + 1 ≡ suc b.next = omega arith in
      record { next = e ∙ ap (λ n. n + 1) h.next ∙ step; names = λ n. ap (λ t. value_of t n) s ∙ h.names n };
}

-- no name, or the next number
pub in_turn_called : (old new : CalledNames) (written : Option Local) (r : Answer) → is_in_turn old.next written ≡ true → Goes old new (λ b. []) (λ b. called_with b (false, None)) r
    → Goes old new (λ b. call_demands b written) (λ b. called_with b (false, written)) r
in_turn_called old new None r e g = g
in_turn_called old new (Some (locals.Named name)) r e g = absurd cc
in_turn_called old new (Some (locals.Numbered number place)) r e g = number_called old new number place r (asked (number == old.next) (faults.WrongNumber place old.next (decimal number)) e) g

-- parameters one by one
pub singles : (ps : List ParameterTree) → flat_map (λ p. announced_parameter p ∷ []) ps ≡ map announced_parameter ps
singles [] = refl
singles (p ∷ ps) = ap (λ more. announced_parameter p ∷ more) (singles ps)

-- before the first
pub none_yet : (table : CalledNames) → table.next ≡ 0 → table.names ≡ [] → IsCalled table none_called
none_yet table e s = record { next = e; names = λ n. ap (λ t. value_of t n) s }

-- the parameters of a definition, and its blocks
pub definition_judged : (known : Known) (all : Locals) (ps : List ParameterTree) (bs : List BlockTree) → all ≡ locals_from 0 (announced ps bs) → (start mid new : CalledNames) (t : Called → Called) (r : Answer) → IsCalled start none_called
    → Goes start mid (λ b. parameters_demands known all b ps) (λ b. called_after b (map announced_parameter ps)) (Ok tt) → Goes mid new (λ b. blocks_demands known all b bs) t r → IsJudged (definition_demands known ps bs) r
definition_judged known all ps bs e start mid new t r s f g =
    let both = goes_rest start mid new (λ b. parameters_demands known all b ps) (λ b. blocks_demands known all b bs) (λ b. called_after b (map announced_parameter ps)) t r f g in
    subst (λ (ls : Locals). IsJudged (parameters_demands known ls none_called ps ++ blocks_demands known ls (called_after none_called (announced ps [])) bs) r) e
    (subst (λ (told : List Announced). IsJudged (parameters_demands known all none_called ps ++ blocks_demands known all (called_after none_called told) bs) r) (sym (append-nil (map announced_parameter ps))) (both.judged none_called s))

pub definition_refused : (known : Known) (all : Locals) (ps : List ParameterTree) (bs : List BlockTree) → all ≡ locals_from 0 (announced ps bs) → (start mid : CalledNames) (t : Called → Called) (fault : ResolveFault) → IsCalled start none_called
    → Goes start mid (λ b. parameters_demands known all b ps) t (Err fault) → IsJudged (definition_demands known ps bs) (Err fault)
definition_refused known all ps bs e start mid t fault s f =
    subst (λ (ls : Locals). IsJudged (parameters_demands known ls none_called ps ++ blocks_demands known ls (called_after none_called (announced ps [])) bs) (Err fault)) e
    (judged_front (parameters_demands known all none_called ps) (blocks_demands known all (called_after none_called (announced ps [])) bs) fault (f.judged none_called s))
