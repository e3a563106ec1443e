-- A turn of the code is one step of the scan, or two.
use Rattle.std.proofs.Common.{◌≡◌, ℕ, ◌+◌, ◌≤◌, Bool, true, false, cond, not, ◌&&◌, List, [], ◌∷◌, length, drop, Option, Some, None, Result, Ok, Err, refl, ap, sym, ◌∙◌, arith, ◌==◌, eq-eqb, ◌<◌, zero, suc, get_or, slice_get, length-drop}
use Rattle.std.proofs.lemmas.List.{drop_more, drop-drop, drop_all}
use Rattle.ir_base.specs.Name.{is_name}
use Rattle.command_line.specs.declared.command.UsageKind.{UsageKind}
use Rattle.command_line.specs.declared.command.UsageKind.TheVariants.{UnknownOption, MissingValue, BadNumber, Repeated, TooManyFiles, NoFile}
use Rattle.command_line.specs.declared.command.WordsFault.{WordsFault}
use Rattle.command_line.specs.declared.command.WordsFault.TheVariants as faults
use Rattle.command_line.specs.declared.given.GivenWords.{GivenWords}
use Rattle.command_line.specs.declared.tool.Tool.{Tool}
use Rattle.command_line.specs.declared.options.PlainOption.{PlainOption}
use Rattle.command_line.specs.declared.options.PlainOption.TheVariants as flags
use Rattle.command_line.specs.declared.options.Setting.{Setting}
use Rattle.command_line.specs.declared.options.Setting.TheVariants as settings
use Rattle.command_line.specs.Options as options
use Rattle.command_line.specs.Tools.{takes_one, needs_file}
use Rattle.command_line.specs.Options.{SeenWord, word_spelling, is_dash}
use Rattle.command_line.specs.Numbers.{is_number}
use Rattle.command_line.specs.Roles.{Role, Unknown, Lone, Full, Open, Value, Marker, Input, Argument, role, role_by, awaited, others, is_empty, is_program, is_marked, values, has_dash}
use Rattle.command_line.specs.Reading.{Wrong, Fails, nothing_given, given_by, first_kind, scan_by, scan, turn, turn_by, spelled_turn, taking, with_setting, with_flag, with_output, with_steps}

abbrev pub first : List (List ℕ) → Option (List ℕ)
first [] = None
first (word ∷ words) = Some word

-- the scan goes on behind n words
pub record After (tool : Tool) (before : List Role) (words : List (List ℕ)) (given : GivenWords) (n : ℕ) : Type 0 where
  pub after : List Role
  pub gives : given ≡ given_by tool after
  pub count : length after ≡ length before + n
  pub free : awaited after ≡ None
  pub some : 0 < n
  pub enough : n ≤ length words
  pub same : scan tool before words ≡ scan tool after (drop n words)

abbrev pub Turned : Tool → List Role → List (List ℕ) → Result (GivenWords × ℕ) Wrong → Type 0
Turned tool before words (Ok (given, count)) = After tool before words given count
Turned tool before words (Err wrong) = scan tool before words ≡ Err wrong

scan_step : (tool : Tool) (before : List Role) (word : List ℕ) (behind : List (List ℕ)) (r : Role) → role tool before word ≡ r → scan tool before (word ∷ behind) ≡ scan_by (first_kind tool before r behind) (1 + length before) (scan tool (r ∷ before) behind)
unfolding scan
scan_step tool before word behind r e = ap (λ r. scan_by (first_kind tool before r behind) (1 + length before) (scan tool (r ∷ before) behind)) e

refused : (tool : Tool) (before : List Role) (word : List ℕ) (behind : List (List ℕ)) (r : Role) (kind : UsageKind) → role tool before word ≡ r → first_kind tool before r behind ≡ Some kind → scan tool before (word ∷ behind) ≡ Err (kind, 1 + length before)
refused tool before word behind r kind e f = scan_step tool before word behind r e ∙ ap (λ f. scan_by f (1 + length before) (scan tool (r ∷ before) behind)) f

passed : (tool : Tool) (before : List Role) (word : List ℕ) (behind : List (List ℕ)) (r : Role) → role tool before word ≡ r → first_kind tool before r behind ≡ None → scan tool before (word ∷ behind) ≡ scan tool (r ∷ before) behind
passed tool before word behind r e f = scan_step tool before word behind r e ∙ ap (λ f. scan_by f (1 + length before) (scan tool (r ∷ before) behind)) f

one_more : (tool : Tool) (before : List Role) (word : List ℕ) (behind : List (List ℕ)) (r : Role) (given : GivenWords) → role tool before word ≡ r → first_kind tool before r behind ≡ None → awaited (r ∷ before) ≡ None → given ≡ given_by tool (r ∷ before) → After tool before (word ∷ behind) given 1
one_more tool before word behind r given e f free gives = record {
  after = r ∷ before;
  gives = gives;
  count = omega arith;
  free = free;
  some = omega arith;
  enough = omega arith;
  same = passed tool before word behind r e f;
}

-- an option and the next word
two_more : (tool : Tool) (before : List Role) (word value : List ℕ) (behind : List (List ℕ)) (s : Setting) (given : GivenWords) → role tool before word ≡ Open s → first_kind tool before (Open s) (value ∷ behind) ≡ None → first_kind tool (Open s ∷ before) (Value s value) behind ≡ None → given ≡ given_by tool (Value s value ∷ Open s ∷ before) → After tool before (word ∷ value ∷ behind) given 2
two_more tool before word value behind s given e f f' gives = record {
  after = Value s value ∷ Open s ∷ before;
  gives = gives;
  count = omega arith;
  free = refl;
  some = omega arith;
  enough = omega arith;
  same = passed tool before word (value ∷ behind) (Open s) e f ∙ passed tool (Open s ∷ before) value behind (Value s value) refl f';
}

turn_input : (tool : Tool) (before : List Role) (word : List ℕ) (behind : List (List ℕ)) → role tool before word ≡ Input word → (twice surplus : Bool) → (is_dash word && has_dash before) ≡ twice → (takes_one tool && not (is_empty (others before))) ≡ surplus → Turned tool before (word ∷ behind) (taking 1 (cond twice (Err (Repeated, 1 + length before)) (cond surplus (Err (TooManyFiles, 1 + length before)) (Ok (given_by tool (Input word ∷ before))))))
turn_input tool before word behind e true surplus t s = refused tool before word behind (Input word) Repeated e (rw t refl)
turn_input tool before word behind e false true t s = refused tool before word behind (Input word) TooManyFiles e (rw (t, s) refl)
turn_input tool before word behind e false false t s = one_more tool before word behind (Input word) _ e (rw (t, s) refl) refl refl

turn_flag : (tool : Tool) (before : List Role) (word : List ℕ) (behind : List (List ℕ)) (s : PlainOption) → role tool before word ≡ Lone s → After tool before (word ∷ behind) (with_flag (given_by tool before) s) 1
turn_flag tool before word behind flags.Text e = one_more tool before word behind (Lone flags.Text) _ e refl refl refl
turn_flag tool before word behind flags.Delete e = one_more tool before word behind (Lone flags.Delete) _ e refl refl refl
turn_flag tool before word behind flags.Recursive e = one_more tool before word behind (Lone flags.Recursive) _ e refl refl refl
turn_flag tool before word behind flags.Dump e = one_more tool before word behind (Lone flags.Dump) _ e refl refl refl

-- An option with its value behind `=`.

full_output : (tool : Tool) (before : List Role) (word value : List ℕ) (behind : List (List ℕ)) → role tool before word ≡ Full settings.Output value → (had : List (List ℕ)) → values settings.Output before ≡ had → Turned tool before (word ∷ behind) (taking 1 (with_output (given_by tool before) value (1 + length before)))
full_output tool before word value behind e [] h =
    rw h (one_more tool before word behind (Full settings.Output value) _ e (rw h refl) refl (rw h refl))
full_output tool before word value behind e (v ∷ vs) h =
    rw h (refused tool before word behind (Full settings.Output value) Repeated e (rw h refl))

full_function : (tool : Tool) (before : List Role) (word value : List ℕ) (behind : List (List ℕ)) → role tool before word ≡ Full settings.Function value → (name : Bool) → is_name value ≡ name → Turned tool before (word ∷ behind) (taking 1 (with_setting (given_by tool before) settings.Function value (1 + length before) (1 + length before)))
full_function tool before word value behind e true h =
    rw h (one_more tool before word behind (Full settings.Function value) _ e (rw h refl) refl refl)
full_function tool before word value behind e false h =
    rw h (refused tool before word behind (Full settings.Function value) MissingValue e (rw h refl))

full_variable : (tool : Tool) (before : List Role) (word value : List ℕ) (behind : List (List ℕ)) → role tool before word ≡ Full settings.Variable value → (name : Bool) → is_name value ≡ name → Turned tool before (word ∷ behind) (taking 1 (with_setting (given_by tool before) settings.Variable value (1 + length before) (1 + length before)))
full_variable tool before word value behind e true h =
    rw h (one_more tool before word behind (Full settings.Variable value) _ e (rw h refl) refl refl)
full_variable tool before word value behind e false h =
    rw h (refused tool before word behind (Full settings.Variable value) MissingValue e (rw h refl))

full_alias : (tool : Tool) (before : List Role) (word value : List ℕ) (behind : List (List ℕ)) → role tool before word ≡ Full settings.Alias value → (name : Bool) → is_name value ≡ name → Turned tool before (word ∷ behind) (taking 1 (with_setting (given_by tool before) settings.Alias value (1 + length before) (1 + length before)))
full_alias tool before word value behind e true h =
    rw h (one_more tool before word behind (Full settings.Alias value) _ e (rw h refl) refl refl)
full_alias tool before word value behind e false h =
    rw h (refused tool before word behind (Full settings.Alias value) MissingValue e (rw h refl))

-- a number in the option's own word, and one in the next
pub same_place : (n : ℕ) → (n == n) ≡ true
same_place n = eq-eqb n n refl

pub next_place : (n : ℕ) → (n + 1 == n) ≡ false
next_place n = grind arith

full_steps : (tool : Tool) (before : List Role) (word value : List ℕ) (behind : List (List ℕ)) → role tool before word ≡ Full settings.MaxSteps value → (had : List (List ℕ)) → values settings.MaxSteps before ≡ had → (number : Bool) → is_number value ≡ number → Turned tool before (word ∷ behind) (taking 1 (with_steps (given_by tool before) value (1 + length before) (1 + length before)))
full_steps tool before word value behind e had h false n =
    rw (n, same_place (1 + length before)) (refused tool before word behind (Full settings.MaxSteps value) BadNumber e (rw n refl))
full_steps tool before word value behind e [] h true n =
    rw (n, h) (one_more tool before word behind (Full settings.MaxSteps value) _ e (rw (n, h) refl) refl (rw h refl))
full_steps tool before word value behind e (v ∷ vs) h true n =
    rw (n, h) (refused tool before word behind (Full settings.MaxSteps value) Repeated e (rw (n, h) refl))

turn_full : (tool : Tool) (before : List Role) (word value : List ℕ) (behind : List (List ℕ)) (s : Setting) → role tool before word ≡ Full s value → Turned tool before (word ∷ behind) (taking 1 (with_setting (given_by tool before) s value (1 + length before) (1 + length before)))
turn_full tool before word value behind settings.Output e = full_output tool before word value behind e _ refl
turn_full tool before word value behind settings.Function e = full_function tool before word value behind e _ refl
turn_full tool before word value behind settings.Variable e = full_variable tool before word value behind e _ refl
turn_full tool before word value behind settings.Alias e = full_alias tool before word value behind e _ refl
turn_full tool before word value behind settings.MaxSteps e = full_steps tool before word value behind e _ refl _ refl

-- An option whose value is the next word.

open_output : (tool : Tool) (before : List Role) (word value : List ℕ) (behind : List (List ℕ)) → role tool before word ≡ Open settings.Output → (had : List (List ℕ)) → values settings.Output before ≡ had → Turned tool before (word ∷ value ∷ behind) (taking 2 (with_output (given_by tool before) value (1 + length before)))
open_output tool before word value behind e [] h =
    rw h (two_more tool before word value behind settings.Output _ e (rw h refl) refl (rw h refl))
open_output tool before word value behind e (v ∷ vs) h =
    rw h (refused tool before word (value ∷ behind) (Open settings.Output) Repeated e (rw h refl))

open_function : (tool : Tool) (before : List Role) (word value : List ℕ) (behind : List (List ℕ)) → role tool before word ≡ Open settings.Function → (name : Bool) → is_name value ≡ name → Turned tool before (word ∷ value ∷ behind) (taking 2 (with_setting (given_by tool before) settings.Function value (1 + length before) (1 + length before + 1)))
open_function tool before word value behind e true h =
    rw h (two_more tool before word value behind settings.Function _ e (rw h refl) refl refl)
open_function tool before word value behind e false h =
    rw h (refused tool before word (value ∷ behind) (Open settings.Function) MissingValue e (rw h refl))

open_variable : (tool : Tool) (before : List Role) (word value : List ℕ) (behind : List (List ℕ)) → role tool before word ≡ Open settings.Variable → (name : Bool) → is_name value ≡ name → Turned tool before (word ∷ value ∷ behind) (taking 2 (with_setting (given_by tool before) settings.Variable value (1 + length before) (1 + length before + 1)))
open_variable tool before word value behind e true h =
    rw h (two_more tool before word value behind settings.Variable _ e (rw h refl) refl refl)
open_variable tool before word value behind e false h =
    rw h (refused tool before word (value ∷ behind) (Open settings.Variable) MissingValue e (rw h refl))

open_alias : (tool : Tool) (before : List Role) (word value : List ℕ) (behind : List (List ℕ)) → role tool before word ≡ Open settings.Alias → (name : Bool) → is_name value ≡ name → Turned tool before (word ∷ value ∷ behind) (taking 2 (with_setting (given_by tool before) settings.Alias value (1 + length before) (1 + length before + 1)))
open_alias tool before word value behind e true h =
    rw h (two_more tool before word value behind settings.Alias _ e (rw h refl) refl refl)
open_alias tool before word value behind e false h =
    rw h (refused tool before word (value ∷ behind) (Open settings.Alias) MissingValue e (rw h refl))

open_steps : (tool : Tool) (before : List Role) (word value : List ℕ) (behind : List (List ℕ)) → role tool before word ≡ Open settings.MaxSteps → (had : List (List ℕ)) → values settings.MaxSteps before ≡ had → (number : Bool) → is_number value ≡ number → Turned tool before (word ∷ value ∷ behind) (taking 2 (with_steps (given_by tool before) value (1 + length before) (1 + length before + 1)))
open_steps tool before word value behind e [] h false n =
    let place : 1 + length (Open settings.MaxSteps ∷ before) ≡ 1 + length before + 1 = omega arith in
    rw (n, next_place (1 + length before), h)
    (passed tool before word (value ∷ behind) (Open settings.MaxSteps) e (rw h refl) ∙ refused tool (Open settings.MaxSteps ∷ before) value behind (Value settings.MaxSteps value) BadNumber refl (rw n refl) ∙ ap (λ k. Err (BadNumber, k)) place)
open_steps tool before word value behind e [] h true n =
    rw (n, h) (two_more tool before word value behind settings.MaxSteps _ e (rw h refl) (rw n refl) (rw h refl))
open_steps tool before word value behind e (v ∷ vs) h false n =
    rw (n, next_place (1 + length before), h) (refused tool before word (value ∷ behind) (Open settings.MaxSteps) Repeated e (rw h refl))
open_steps tool before word value behind e (v ∷ vs) h true n =
    rw (n, h) (refused tool before word (value ∷ behind) (Open settings.MaxSteps) Repeated e (rw h refl))

turn_open : (tool : Tool) (before : List Role) (word : List ℕ) (behind : List (List ℕ)) (s : Setting) → role tool before word ≡ Open s → Turned tool before (word ∷ behind) (spelled_turn (given_by tool before) (options.Open s) word (first behind) (1 + length before))
turn_open tool before word [] s e = refused tool before word [] (Open s) MissingValue e refl
turn_open tool before word (value ∷ behind) settings.Output e = open_output tool before word value behind e _ refl
turn_open tool before word (value ∷ behind) settings.Function e = open_function tool before word value behind e _ refl
turn_open tool before word (value ∷ behind) settings.Variable e = open_variable tool before word value behind e _ refl
turn_open tool before word (value ∷ behind) settings.Alias e = open_alias tool before word value behind e _ refl
turn_open tool before word (value ∷ behind) settings.MaxSteps e = open_steps tool before word value behind e _ refl _ refl

-- Any word.

turned_by : (tool : Tool) (before : List Role) (word : List ℕ) (behind : List (List ℕ)) → (program marked : Bool) (spelling : SeenWord) → role tool before word ≡ role_by None program marked spelling word → Turned tool before (word ∷ behind) (turn_by (given_by tool before) program marked spelling word (first behind) (1 + length before))
turned_by tool before word behind true marked spelling e = one_more tool before word behind (Argument word) _ e refl refl refl
turned_by tool before word behind false true spelling e = turn_input tool before word behind e _ _ refl refl
turned_by tool before word behind false false options.Marker e = one_more tool before word behind Marker _ e refl refl refl
turned_by tool before word behind false false (options.Lone s) e = turn_flag tool before word behind s e
turned_by tool before word behind false false (options.Full s value) e = turn_full tool before word value behind s e
turned_by tool before word behind false false (options.Open s) e = turn_open tool before word behind s e
turned_by tool before word behind false false options.Unknown e = refused tool before word behind Unknown UnknownOption e refl
turned_by tool before word behind false false options.Input e = turn_input tool before word behind e _ _ refl refl

pub turned : (tool : Tool) (before : List Role) (word : List ℕ) (behind : List (List ℕ)) → awaited before ≡ None → Turned tool before (word ∷ behind) (turn (given_by tool before) word (first behind) (1 + length before))
unfolding turn
turned tool before word behind free =
    turned_by tool before word behind _ _ _ (ap (λ a. role_by a (is_program tool (is_empty (others before))) (is_marked before) (word_spelling tool word) word) free)

-- The loop.

pub record Stands (tool : Tool) (words : List (List ℕ)) (given : GivenWords) (at : ℕ) : Type 0 where
  pub before : List Role
  pub gives : given ≡ given_by tool before
  pub count : at ≡ 1 + length before
  pub free : awaited before ≡ None
  pub rest : scan tool before (drop at words) ≡ scan tool [] (drop 1 words)

pub stands_first : (tool : Tool) (words : List (List ℕ)) (given : GivenWords) → given ≡ nothing_given tool → Stands tool words given 1
stands_first tool words given e = record { before = []; gives = e; count = refl; free = refl; rest = refl }

slice_get-first : (words : List (List ℕ)) (i : ℕ) → slice_get words i ≡ first (drop i words)
slice_get-first [] zero = refl
slice_get-first [] (suc i) = refl
slice_get-first (w ∷ ws) zero = refl
slice_get-first (w ∷ ws) (suc i) = slice_get-first ws i

-- what the code does at one turn, by what the scan does
turned_here : (tool : Tool) (words : List (List ℕ)) (given : GivenWords) (at : ℕ) (word : List ℕ) (next : Option (List ℕ)) (reading : Result (GivenWords × ℕ) Wrong) → at < length words → word ≡ get_or words at word → next ≡ slice_get words (at + 1) → (s : Stands tool words given at) → turn given word next at ≡ reading → Turned tool s.before (drop at words) reading
turned_here tool words given at word next reading h w n s r =
    let t = turned tool s.before word (drop (at + 1) words) s.free in
    let gives = s.gives in
    let count = s.count in
    let next_first = n ∙ slice_get-first words (at + 1) in
    let same : turn (given_by tool s.before) word (first (drop (at + 1) words)) (1 + length s.before) ≡ reading = rw (← gives, ← count, ← next_first) r in
    let here : drop at words ≡ word ∷ drop (at + 1) words = drop_more words at word h ∙ ap (λ x. x ∷ drop (at + 1) words) (sym w) in
    rw here (rw same at t)

pub turn_fails : (tool : Tool) (words : List (List ℕ)) (given : GivenWords) (at : ℕ) (word : List ℕ) (next : Option (List ℕ)) (wrong : Wrong) → at < length words → word ≡ get_or words at word → next ≡ slice_get words (at + 1) → Stands tool words given at → turn given word next at ≡ Err wrong → scan tool [] (drop 1 words) ≡ Err wrong
turn_fails tool words given at word next wrong h w n s r = sym s.rest ∙ turned_here tool words given at word next (Err wrong) h w n s r

pub turn_stands : (tool : Tool) (words : List (List ℕ)) (given now : GivenWords) (at : ℕ) (word : List ℕ) (next : Option (List ℕ)) (count : ℕ) → at < length words → word ≡ get_or words at word → next ≡ slice_get words (at + 1) → Stands tool words given at → turn given word next at ≡ Ok (now, count) → Stands tool words now (at + count)
turn_stands tool words given now at word next count h w n s r =
    let a = turned_here tool words given at word next (Ok (now, count)) h w n s r in
    record {
      before = a.after;
      gives = a.gives;
      count = let c = a.count in let d = s.count in omega arith;
      free = a.free;
      rest = rw (← drop-drop count at words) (sym a.same ∙ s.rest);
    }

pub turn_moves : (tool : Tool) (words : List (List ℕ)) (given now : GivenWords) (at : ℕ) (word : List ℕ) (next : Option (List ℕ)) (count : ℕ) → at < length words → word ≡ get_or words at word → next ≡ slice_get words (at + 1) → Stands tool words given at → turn given word next at ≡ Ok (now, count) → (at < at + count) × (at + count ≤ length words)
turn_moves tool words given now at word next count h w n s r =
    let a = turned_here tool words given at word next (Ok (now, count)) h w n s r in
    let some = a.some in
    let enough = a.enough in
    (omega arith, omega (arith, length-drop at words))

scan_end : (tool : Tool) (before : List Role) (b : Bool) → (needs_file tool && is_empty (others before)) ≡ b → scan tool before [] ≡ cond b (Err (NoFile, 1 + length before)) (Ok before)
unfolding scan
scan_end tool before b e = ap (λ b. cond b (Err (NoFile, 1 + length before)) (Ok before)) e

stands_end : (tool : Tool) (words : List (List ℕ)) (given : GivenWords) (at : ℕ) (b : Bool) → at ≡ length words → (s : Stands tool words given at) → (needs_file given.tool && is_empty given.others) ≡ b → scan tool [] (drop 1 words) ≡ cond b (Err (NoFile, length words)) (Ok s.before)
stands_end tool words given at b h s e =
    let gives = s.gives in
    let lacks : (needs_file tool && is_empty (others s.before)) ≡ b = ap (λ (g : GivenWords). needs_file g.tool && is_empty g.others) (sym gives) ∙ e in
    let none : drop at words ≡ [] = rw h (drop_all (length words) words (omega arith)) in
    let place : 1 + length s.before ≡ length words = let c = s.count in omega arith in
    sym s.rest ∙ ap (scan tool s.before) none ∙ scan_end tool s.before b lacks ∙ ap (λ k. cond b (Err (NoFile, k)) (Ok s.before)) place

pub no_file : (tool : Tool) (words : List (List ℕ)) (given : GivenWords) (at : ℕ) → length words ≤ at → at ≤ length words → Stands tool words given at → (needs_file given.tool && is_empty given.others) ≡ true → scan tool [] (drop 1 words) ≡ Err (NoFile, length words)
no_file tool words given at h h' s e = stands_end tool words given at true (omega arith) s e

pub all_read : (tool : Tool) (words : List (List ℕ)) (given : GivenWords) (at : ℕ) → length words ≤ at → at ≤ length words → Stands tool words given at → (needs_file given.tool && is_empty given.others) ≡ false → (all : List Role) × (scan tool [] (drop 1 words) ≡ Ok all) × (given ≡ given_by tool all)
all_read tool words given at h h' s e = (s.before, stands_end tool words given at false (omega arith) s e, s.gives)

-- a turn that fails is the answer
pub turn_refuses : (tool : Tool) (words : List (List ℕ)) (given : GivenWords) (at : ℕ) (word : List ℕ) (next : Option (List ℕ)) (fault : WordsFault) → at < length words → word ≡ get_or words at word → next ≡ slice_get words (at + 1) → Stands tool words given at → Fails fault (turn given word next at) → Fails fault (scan tool [] (drop 1 words))
turn_refuses tool words given at word next (faults.Usage kind k) h w n s r = turn_fails tool words given at word next (kind, k) h w n s r
turn_refuses tool words given at word next faults.Memory h w n s r = tt
