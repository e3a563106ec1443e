-- Standard input is untouched until its turn, and files where none is an input.
use Rattle.std.proofs.Common.{◌≡◌, ◌⊎◌, inl, inr, ℕ, zero, suc, ◌+◌, ◌<◌, ◌≤◌, Bool, true, false, cond, not, ◌||◌, List, [], ◌∷◌, length, get_or, codes, Option, Some, refl, sym, ap, ◌∙◌, arith, true≢false}
use Rattle.std.specs.List.{IsAmong}
use Rattle.ir_base.specs.Files.{Named}
use Rattle.command_line.specs.Options.{is_dash}
use Rattle.tool_output.specs.declared.ends.ended.Ended.{Ended}
use Rattle.tool_output.specs.declared.ends.ended.Ended.TheVariants.{CannotRead, InputTooLarge, Memory}
use Rattle.tool_cli.specs.Causes.{Refuses}
use Rattle.tool_cli.specs.Order.{has_file, behind_stdin, refused_input, IsBeforeStdin, KeepsOrder}
use Rattle.tool_cli.specs.Told.{IsOfRun}
use Rattle.tool_cli.specs.World.{found_input}

-- The names behind standard input.

first : (dash : Bool) (names rest : List (List ℕ)) (n : List ℕ) → dash ≡ true → IsAmong names n → IsAmong (cond dash names rest) n
first true names rest n e here = here
first false names rest n e here = absurd (let h = e in cc)

either : (dash : Bool) (names rest : List (List ℕ)) (n : List ℕ) → IsAmong names n → IsAmong rest n → IsAmong (cond dash names rest) n
either true names rest n here later = here
either false names rest n here later = later

behind_at : (names : List (List ℕ)) (i k : ℕ) (name n : List ℕ) → i < k → k < length names → name ≡ get_or names i name → is_dash name ≡ true → n ≡ get_or names k n → IsAmong (behind_stdin names) n
behind_at [] i k name n h h' e dash f = absurd (omega arith)
behind_at (m ∷ names) i zero name n h h' e dash f = absurd (omega arith)
behind_at (m ∷ names) zero (suc k) name n h h' e dash f = first (is_dash m) names (behind_stdin names) n (ap is_dash (sym e) ∙ dash) (k, (omega arith, f))
behind_at (m ∷ names) (suc i) (suc k) name n h h' e dash f =
    either (is_dash m) names (behind_stdin names) n (k, (omega arith, f)) (behind_at names i k name n (omega arith) (omega arith) e dash f)

-- before the turn of the name with this index: nothing was read of it, or what is to come stands behind it
abbrev pub Untouched : {A : Type 0} → List (List ℕ) → ℕ → A → A → Type 0
Untouched names i before now = (now ≡ before) ⊎ ((k : ℕ) → i ≤ k → k < length names → (n : List ℕ) → n ≡ get_or names k n → IsAmong (behind_stdin names) n)

on_by : {A : Type 0} (dash : Bool) (names : List (List ℕ)) (i : ℕ) (name : List ℕ) (before mid now : A) → is_dash name ≡ dash → name ≡ get_or names i name → (dash ≡ false → now ≡ mid) → Untouched names i before mid → Untouched names (i + 1) before now
on_by true names i name before mid now is e same was = inr (λ k h h' n f. behind_at names i k name n (omega arith) h' e is f)
on_by false names i name before mid now is e same (inl was) = inl (same refl ∙ was)
on_by false names i name before mid now is e same (inr all) = inr (λ k h h' n f. all k (omega arith) h' n f)

pub untouched_on : {A : Type 0} (names : List (List ℕ)) (i : ℕ) (name : List ℕ) (before mid now : A) → name ≡ get_or names i name → (is_dash name ≡ false → now ≡ mid) → Untouched names i before mid → Untouched names (i + 1) before now
untouched_on names i name before mid now e same was = on_by (is_dash name) names i name before mid now refl e same was

-- Refusals.

pub order_kept : {A : Type 0} (names : List (List ℕ)) (i : ℕ) (name : List ℕ) (before mid now : A) (ended : Ended) → i < length names → name ≡ get_or names i name → (is_dash name ≡ false → now ≡ mid) → ((other : List ℕ) → refused_input ended ≡ Some other → other ≡ name) → Untouched names i before mid → KeepsOrder names before now ended
order_kept names i name before mid now ended h e same only (inl was) = λ other is stands. same (ap is_dash (sym (only other is)) ∙ stands.0) ∙ was
order_kept names i name before mid now ended h e same only (inr all) = λ other is stands. absurd (stands.1 (rw (only other is) (all i (omega arith) h name e)))

pub refuses_only : (contents : Option Named) (left : Option (List ℕ)) (i f : Type 0) (name : List ℕ) (ended : Ended) → Refuses (found_input contents left i f) name ended → (other : List ℕ) → refused_input ended ≡ Some other → other ≡ name
refuses_only contents left i f name (CannotRead o) why other is = (let same : other ≡ o = cc in same ∙ why.0)
refuses_only contents left i f name (InputTooLarge o limit) why other is = (let same : other ≡ o = cc in same ∙ why.0)
refuses_only contents left i f name ended why other is = absurd (let h = is in cc)

pub over_only : (name : List ℕ) (limit : ℕ) (ended : Ended) → (ended ≡ InputTooLarge name limit) ⊎ (ended ≡ Memory) → (other : List ℕ) → refused_input ended ≡ Some other → other ≡ name
over_only name limit ended (inl e) other is = (let h : Some name ≡ Some other = sym (ap refused_input e) ∙ is in cc)
over_only name limit ended (inr e) other is = absurd (let h = sym (ap refused_input e) ∙ is in cc)

pub memory_keeps : {A : Type 0} (names : List (List ℕ)) (before now : A) → KeepsOrder names before now Memory
memory_keeps names before now = λ other is stands. absurd (let h = is in cc)

-- a program that could not read standard input is no input before that
dash_after : (names : List (List ℕ)) (name other : List ℕ) → name ≡ codes "-" → refused_input (CannotRead name) ≡ Some other → IsBeforeStdin names other → ⊥
dash_after names name other is refused stands =
    let h : Some name ≡ Some other = refused in
    let same : name ≡ other = cc in
    true≢false (sym (ap is_dash is) ∙ ap is_dash same ∙ stands.0)

pub work_keeps : {A : Type 0} (names : List (List ℕ)) (before now : A) (ended : Ended) (hears : Bool) → IsOfRun ended hears → KeepsOrder names before now ended
work_keeps names before now (CannotRead name) hears of = λ other is stands. absurd (dash_after names name other of.1 is stands)
work_keeps names before now (InputTooLarge name limit) hears of = absurd of
work_keeps names before now ended hears of = λ other is stands. absurd (let h = is in cc)

-- Files.

dash_by : (dash rest : Bool) → (not dash || rest) ≡ false → dash ≡ true
dash_by true rest e = refl
dash_by false rest e = absurd (let h = e in cc)

rest_by : (dash rest : Bool) → (not dash || rest) ≡ false → rest ≡ false
rest_by true rest e = e
rest_by false rest e = absurd (let h = e in cc)

dash_at : (names : List (List ℕ)) (i : ℕ) (name : List ℕ) → i < length names → name ≡ get_or names i name → has_file names ≡ false → is_dash name ≡ true
dash_at [] i name h e none = absurd (omega arith)
dash_at (m ∷ names) zero name h e none = ap is_dash e ∙ dash_by (is_dash m) (has_file names) none
dash_at (m ∷ names) (suc i) name h e none = dash_at names i name (omega arith) e (rest_by (is_dash m) (has_file names) none)

pub files_on : {A : Type 0} (names : List (List ℕ)) (i : ℕ) (name : List ℕ) (before mid now : A) → i < length names → name ≡ get_or names i name → (is_dash name ≡ true → now ≡ mid) → (has_file names ≡ false → mid ≡ before) → has_file names ≡ false → now ≡ before
files_on names i name before mid now h e same was none = same (dash_at names i name h e none) ∙ was none
