-- The whole line: what is read is the command, or the first fault, and there is one of them.
use Rattle.std.proofs.Common.{◌≡◌, ◌⊎◌, inl, inr, ℕ, ◌<◌, ◌≤◌, List, [], drop, Option, Some, None, Result, Ok, Err, refl, ap, sym, ◌∙◌, arith, cond, ◌==◌}
use Rattle.std.specs.Prelude.{IfOk}
use Rattle.command_line.specs.declared.command.UsageKind.{UsageKind}
use Rattle.command_line.specs.declared.command.UsageKind.TheVariants.{NoTool, UnknownOption, MissingValue, BadNumber, Repeated, TooManyFiles, NoFile}
use Rattle.command_line.specs.declared.command.WordsFault.{WordsFault}
use Rattle.command_line.specs.declared.command.WordsFault.TheVariants as faults
use Rattle.command_line.specs.declared.command.Command.{Command}
use Rattle.command_line.specs.declared.tool.Tool.{Tool}
use Rattle.command_line.specs.Kinds.{rank}
use Rattle.command_line.specs.Tools.{tool_of}
use Rattle.command_line.specs.Roles.{Role}
use Rattle.command_line.specs.Faults.{FaultBehind, IsFirstFault}
use Rattle.command_line.specs.Commands.{IsReadAs, IsJudged, IsUnlessMemory, command_of}
use Rattle.command_line.specs.Reading.{Wrong, Answers, command_read, reading_by, reading}
use Rattle.command_line.proofs.Judged.{FaultFrom, Judged, judged}

-- What is read holds.

told : (tool : Tool) (words : List (List ℕ)) (kind : UsageKind) (k : ℕ) → FaultFrom tool [] words kind k → FaultBehind (Some tool) words kind k
told tool words kind k (inl f) = inl (record { front = f.front; word = f.word; behind = f.behind; whole = f.whole; place = f.place; wrong = f.wrong })
told tool words kind k (inr f) = inr (record { none = f.none; place = f.place; wrong = f.wrong })

found : (tool : Tool) (words : List (List ℕ)) (kind : UsageKind) (k : ℕ) → FaultBehind (Some tool) words kind k → FaultFrom tool [] words kind k
found tool words kind k (inl f) = inl (record { front = f.front; word = f.word; behind = f.behind; whole = f.whole; place = f.place; wrong = f.wrong })
found tool words kind k (inr f) = inr (record { none = f.none; place = f.place; wrong = f.wrong })

abbrev pub Holds : List (List ℕ) → Result Command Wrong → Type 0
Holds words (Ok command) = IsReadAs words command
Holds words (Err (kind, k)) = IsFirstFault words kind k

scan_holds : (words : List (List ℕ)) (tool : Tool) → tool_of words ≡ Some tool → (all : Result (List Role) Wrong) → Judged tool [] (drop 1 words) all → Holds words (command_read tool all)
scan_holds words tool e (Ok all) j = record {
  fine = λ kind k f. j.1 kind k (found tool (drop 1 words) kind k (rw e at f));
  is = rw e (ap (λ roles. Some (command_of tool roles)) (sym j.0));
}
scan_holds words tool e (Err (kind, k)) j = record {
  is = rw e (told tool (drop 1 words) kind k j.0);
  first = λ other at f. j.1 other at (found tool (drop 1 words) other at (rw e at f));
}

no_tool_first : (other : UsageKind) (at : ℕ) → (other ≡ NoTool) × (at ≡ 0) → (0 < at) ⊎ ((0 ≡ at) × (rank NoTool ≤ rank other))
no_tool_first other at h = inr (sym h.1, omega arith)

line_holds : (words : List (List ℕ)) (tool : Option Tool) → tool_of words ≡ tool → Holds words (reading_by tool (drop 1 words))
line_holds words None e = record {
  is = rw e (refl, refl);
  first = λ other at f. no_tool_first other at (rw e at f);
}
line_holds words (Some tool) e = scan_holds words tool e _ (judged tool (drop 1 words) [])

pub reading_holds : (words : List (List ℕ)) → Holds words (reading words)
reading_holds words = line_holds words _ refl

-- There is one.

kind_at : ℕ → UsageKind
kind_at n = cond (n == 0) NoTool (cond (n == 1) UnknownOption (cond (n == 2) MissingValue (cond (n == 3) BadNumber (cond (n == 4) Repeated (cond (n == 5) TooManyFiles NoFile)))))

kind_at-rank : (kind : UsageKind) → kind_at (rank kind) ≡ kind
unfolding kind_at
kind_at-rank = elim [ NoTool ↦ refl | UnknownOption ↦ refl | MissingValue ↦ refl | BadNumber ↦ refl | Repeated ↦ refl | TooManyFiles ↦ refl | NoFile ↦ refl ]

same_rank : (kind other : UsageKind) → rank kind ≤ rank other → rank other ≤ rank kind → kind ≡ other
same_rank kind other h h' =
    let same : rank kind ≡ rank other = omega arith in
    sym (kind_at-rank kind) ∙ ap kind_at same ∙ kind_at-rank other

both_first : (kind other : UsageKind) (k at : ℕ) → (k < at) ⊎ ((k ≡ at) × (rank kind ≤ rank other)) → (at < k) ⊎ ((at ≡ k) × (rank other ≤ rank kind)) → (kind ≡ other) × (k ≡ at)
both_first kind other k at (inl h) (inl h') = absurd (omega arith)
both_first kind other k at (inl h) (inr h') = absurd (omega (arith, h'.0))
both_first kind other k at (inr h) (inl h') = absurd (omega (arith, h.0))
both_first kind other k at (inr h) (inr h') = (same_rank kind other h.1 h'.1, h.0)

pub one_fault : (words : List (List ℕ)) (kind other : UsageKind) (k at : ℕ) → IsFirstFault words kind k → IsFirstFault words other at → (kind ≡ other) × (k ≡ at)
one_fault words kind other k at f g = both_first kind other k at (f.first other at g.is) (g.first kind k f.is)

pub one_command : (words : List (List ℕ)) (command other : Command) → IsReadAs words command → IsReadAs words other → command ≡ other
one_command words command other r s = let e = r.is in let e' = s.is in cc

-- What the answer says.

pub command_is : (words : List (List ℕ)) (answer : Result Command WordsFault) → Answers answer (reading words) → IfOk answer (λ command. IsReadAs words command)
command_is words (Ok command) e = rw e at (reading_holds words)
command_is words (Err fault) e = tt

pub usage_is : (words : List (List ℕ)) (answer : Result Command WordsFault) → Answers answer (reading words) → (kind : UsageKind) (k : ℕ) → answer ≡ Err (faults.Usage kind k) → IsFirstFault words kind k
usage_is words answer e kind k same = let read : reading words ≡ Err (kind, k) = rw same at e in rw read at (reading_holds words)

pub command_answers : (words : List (List ℕ)) (answer : Result Command WordsFault) → Answers answer (reading words) → (command : Command) → IsReadAs words command → IsUnlessMemory answer (Ok command)
command_answers words (Ok other) e command r = inl (ap Ok (one_command words other command (rw e at (reading_holds words)) r))
command_answers words (Err (faults.Usage kind k)) e command r = let first : IsFirstFault words kind k = rw e at (reading_holds words) in absurd (r.fine kind k first.is)
command_answers words (Err faults.Memory) e command r = inr refl

pub usage_answers : (words : List (List ℕ)) (answer : Result Command WordsFault) → Answers answer (reading words) → (kind : UsageKind) (k : ℕ) → IsFirstFault words kind k → IsUnlessMemory answer (Err (faults.Usage kind k))
usage_answers words (Ok other) e kind k f = let r : IsReadAs words other = rw e at (reading_holds words) in absurd (r.fine kind k f.is)
usage_answers words (Err (faults.Usage other at)) e kind k f =
    let same = one_fault words other kind at k (rw e at (reading_holds words)) f in
    inl (rw (same.0, same.1) refl)
usage_answers words (Err faults.Memory) e kind k f = inr refl

judged_by : (words : List (List ℕ)) (read : Result Command Wrong) → Holds words read → IsJudged words
judged_by words (Ok command) h = inl (command, h)
judged_by words (Err (kind, k)) h = inr (kind, (k, h))

pub is_judged : (words : List (List ℕ)) → IsJudged words
is_judged words = judged_by words (reading words) (reading_holds words)
