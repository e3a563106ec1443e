-- One input, where its content is told.
use Rattle.std.proofs.Common.{◌≡◌, ◌⊎◌, inl, inr, ℕ, ◌+◌, ◌<◌, ◌≤◌, Bool, true, false, cond, List, [], ◌++◌, length, Option, Some, None, Ok, Err, refl, sym, ap, ◌∙◌, arith}
use Rattle.std.specs.Prelude.{IfSome, IsSomeAnd}
use Rattle.std.specs.Bool.{MatchBool}
use Rattle.std.proofs.lemmas.List.{append-nil}
use Rattle.std.proofs.lemmas.Bool.Decides.{nat_tests}
use Rattle.ir_base.specs.Outside.{Lost}
use Rattle.ir_base.specs.Files.{Named, ReadsFrom, IsMissing, IsOver}
use Rattle.command_line.specs.Options.{is_dash}
use Rattle.tool_output.specs.declared.ends.ended.Ended.{Ended}
use Rattle.tool_output.specs.declared.ends.ended.Ended.TheVariants.{CannotRead, InputTooLarge, Memory}
use Rattle.tool_cli.specs.Inputs.{content, stdin_after, Tells, alone, together, input_read}
use Rattle.tool_cli.specs.Causes.{IsEmptied, HasRead, GaveUp, Refuses}
use Rattle.tool_cli.specs.World.{found_input}
use Rattle.tool_cli.specs.declared.inputs.TheConstants.{LARGEST, LARGEST_TOGETHER}

alone_ok : (name text : List ℕ) → length text ≤ LARGEST → alone name (Some text) ≡ Ok text
alone_ok name text few = grind (arith, nat_tests)

alone_over : (name text : List ℕ) → LARGEST < length text → alone name (Some text) ≡ Err (InputTooLarge name LARGEST)
alone_over name text many = grind (arith, nat_tests)

together_ok : (name text : List ℕ) (before : ℕ) → before + length text ≤ LARGEST_TOGETHER → together name before (Ok text) ≡ Ok text
together_ok name text before few = grind (arith, nat_tests)

together_over : (name text : List ℕ) (before : ℕ) → LARGEST_TOGETHER < before + length text → together name before (Ok text) ≡ Err (InputTooLarge name LARGEST_TOGETHER)
together_over name text before many = grind (arith, nat_tests)

-- all of standard input was read
stdin_read : (left_before left_now : Option (List ℕ)) (stdin text : List ℕ) → left_before ≡ Some stdin → Lost left_before left_now text → IsEmptied left_now → Some stdin ≡ Some text
stdin_read left_before None stdin text told lost none = absurd (let h = sym told ∙ lost in cc)
stdin_read left_before (Some rest) stdin text told lost none = sym told ∙ lost ∙ ap (λ r. Some (text ++ r)) none ∙ ap Some (append-nil text)

stdin_empty : (left_before left_now : Option (List ℕ)) (stdin text : List ℕ) → left_before ≡ Some stdin → Lost left_before left_now text → IsEmptied left_now → left_now ≡ Some []
stdin_empty left_before None stdin text told lost none = absurd (let h = sym told ∙ lost in cc)
stdin_empty left_before (Some rest) stdin text told lost none = ap Some none

file_read : (contents : Option Named) (held : Named) (name text : List ℕ) → contents ≡ Some held → ReadsFrom contents name text → held name ≡ Some text
file_read contents held name text told read = rw told at read

content_by : (dash : Bool) (contents : Option Named) (left_before left_now : Option (List ℕ)) (held : Named) (stdin name text : List ℕ) → MatchBool dash (left_before ≡ Some stdin) (contents ≡ Some held) → MatchBool dash (Lost left_before left_now text × IsEmptied left_now) (ReadsFrom contents name text) → cond dash (Some stdin) (held name) ≡ Some text
content_by true contents left_before left_now held stdin name text told read = stdin_read left_before left_now stdin text told read.0 read.1
content_by false contents left_before left_now held stdin name text told read = file_read contents held name text told read

-- what was read is what the input holds
pub content_read : (contents : Option Named) (left_before left_now : Option (List ℕ)) (held : Named) (stdin name text : List ℕ) → Tells contents left_before held stdin name → HasRead contents left_before left_now name text → content held stdin name ≡ Some text
content_read contents left_before left_now held stdin name text told read = content_by (is_dash name) contents left_before left_now held stdin name text told read.content

alone_read : (held : Named) (stdin name text : List ℕ) → content held stdin name ≡ Some text → length text ≤ LARGEST → alone name (content held stdin name) ≡ Ok text
alone_read held stdin name text e few = ap (alone name) e ∙ alone_ok name text few

-- the text is what the input gives, where all are not too many
pub input_ok : (held : Named) (stdin name text : List ℕ) (before : ℕ) → content held stdin name ≡ Some text → length text ≤ LARGEST → before + length text ≤ LARGEST_TOGETHER → input_read held stdin before name ≡ Ok text
unfolding input_read
input_ok held stdin name text before e few all = ap (together name before) (alone_read held stdin name text e few) ∙ together_ok name text before all

pub input_over : (held : Named) (stdin name text : List ℕ) (before : ℕ) → content held stdin name ≡ Some text → length text ≤ LARGEST → LARGEST_TOGETHER < before + length text → input_read held stdin before name ≡ Err (InputTooLarge name LARGEST_TOGETHER)
unfolding input_read
input_over held stdin name text before e few all = ap (together name before) (alone_read held stdin name text e few) ∙ together_over name text before all

-- what is left of standard input behind an input
left_by : (dash : Bool) (contents : Option Named) (left_before left_now : Option (List ℕ)) (stdin name text : List ℕ) → left_before ≡ Some stdin → MatchBool dash (Lost left_before left_now text × IsEmptied left_now) (ReadsFrom contents name text) → (dash ≡ false → left_now ≡ left_before) → left_now ≡ Some (cond dash [] stdin)
left_by true contents left_before left_now stdin name text told read same = stdin_empty left_before left_now stdin text told read.0 read.1
left_by false contents left_before left_now stdin name text told read same = same refl ∙ told

pub left_told : (contents : Option Named) (left_before left_now : Option (List ℕ)) (stdin name text : List ℕ) → left_before ≡ Some stdin → HasRead contents left_before left_now name text → (is_dash name ≡ false → left_now ≡ left_before) → left_now ≡ Some (stdin_after stdin name)
left_told contents left_before left_now stdin name text told read same = left_by (is_dash name) contents left_before left_now stdin name text told read.content same

-- A refusal is what the input gives, or the run gave up.

missing_gives : (held : Named) (stdin name : List ℕ) (before : ℕ) → content held stdin name ≡ None → input_read held stdin before name ≡ Err (CannotRead name)
unfolding input_read
missing_gives held stdin name before e = ap (λ o. together name before (alone name o)) e

large_gives : (held : Named) (stdin name text : List ℕ) (before : ℕ) → content held stdin name ≡ Some text → LARGEST < length text → input_read held stdin before name ≡ Err (InputTooLarge name LARGEST)
unfolding input_read
large_gives held stdin name text before e many = ap (λ o. together name before (alone name o)) e ∙ ap (together name before) (alone_over name text many)

is_missing : (contents : Option Named) (held : Named) (name : List ℕ) → contents ≡ Some held → IsMissing contents name → held name ≡ None
is_missing contents held name told missing = rw told at missing

unread_by : (dash : Bool) (contents : Option Named) (left : Option (List ℕ)) (held : Named) (stdin name : List ℕ) (i f : Type 0) → MatchBool dash (left ≡ Some stdin) (contents ≡ Some held) → MatchBool dash i (f ⊎ IsMissing contents name) → (cond dash (Some stdin) (held name) ≡ None) ⊎ MatchBool dash i f
unread_by true contents left held stdin name i f told why = inr why
unread_by false contents left held stdin name i f told (inl rose) = inr rose
unread_by false contents left held stdin name i f told (inr missing) = inl (is_missing contents held name told missing)

over_some : (o : Option (List ℕ)) → IsSomeAnd o (λ bytes. LARGEST < length bytes) → (text : List ℕ) × ((o ≡ Some text) × (LARGEST < length text))
over_some None h = absurd h
over_some (Some text) h = (text, (refl, h))

large_by : (dash : Bool) (contents : Option Named) (left : Option (List ℕ)) (held : Named) (stdin name : List ℕ) → MatchBool dash (left ≡ Some stdin) (contents ≡ Some held) → MatchBool dash (IfSome left (λ bytes. LARGEST < length bytes)) (IfSome contents (λ files. IsOver LARGEST files name)) → (text : List ℕ) × ((cond dash (Some stdin) (held name) ≡ Some text) × (LARGEST < length text))
large_by true contents left held stdin name told large = (stdin, (refl, rw told at large))
large_by false contents left held stdin name told large = over_some (held name) (rw told at large)

pub refusal_told : (contents : Option Named) (left : Option (List ℕ)) (held : Named) (stdin name : List ℕ) (before : ℕ) (i f : Type 0) (ended : Ended) → Tells contents left held stdin name → Refuses (found_input contents left i f) name ended → (input_read held stdin before name ≡ Err ended) ⊎ GaveUp i f ended
refusal_told contents left held stdin name before i f (CannotRead other) told why =
    elim (unread_by (is_dash name) contents left held stdin name i f told why.1) [
      | inl missing ↦ inl (missing_gives held stdin name before missing ∙ ap (λ n. Err (CannotRead n)) (sym why.0))
      | inr rose ↦ inr (rw why.0 rose)
    ]
refusal_told contents left held stdin name before i f (InputTooLarge other limit) told why =
    let large = large_by (is_dash name) contents left held stdin name told why.2 in
    inl (large_gives held stdin name large.0 before large.1.0 large.1.1 ∙ ap (λ n. Err (InputTooLarge n LARGEST)) (sym why.0) ∙ ap (λ l. Err (InputTooLarge other l)) (sym why.1))
refusal_told contents left held stdin name before i f Memory told why = inr tt
refusal_told contents left held stdin name before i f ended told why = absurd why
