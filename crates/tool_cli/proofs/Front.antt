-- The inputs in front of standard input, where the files tell what they hold.
use Rattle.std.proofs.Common.{◌≡◌, ◌⊎◌, inl, inr, ℕ, ◌+◌, ◌<◌, ◌≤◌, Bool, true, false, List, [], ◌∷◌, length, drop, get_or, Option, Some, Result, Ok, Err, refl, sym, ap, ◌∙◌, subst}
use Rattle.std.specs.Prelude.{if◌then◌else◌}
use Rattle.std.specs.Bool.{MatchBool}
use Rattle.ir_base.specs.Files.{Named, IsMissing}
use Rattle.command_line.specs.Options.{is_dash}
use Rattle.tool_output.specs.declared.ends.ended.Ended.{Ended}
use Rattle.tool_output.specs.declared.ends.ended.Ended.TheVariants.{CannotRead, InputTooLarge, Memory}
use Rattle.tool_cli.specs.Inputs.{content, input_read, read_on, texts_read, with_text, Tells}
use Rattle.tool_cli.specs.Causes.{GaveUp, HasRead, Refuses}
use Rattle.tool_cli.specs.Order.{before_stdin, IsRefusedInFront}
use Rattle.tool_cli.specs.World.{found_input}
use Rattle.tool_cli.proofs.Contents.{content_read, input_ok, input_over, refusal_told}
use Rattle.tool_cli.proofs.InputsInOrder.{next_name, none_behind}
use Rattle.tool_cli.specs.declared.inputs.TheConstants.{LARGEST_TOGETHER}

-- what the inputs from this name on give in front of standard input, behind so many bytes
abbrev pub front_from : Named → ℕ → List (List ℕ) → Result (List (List ℕ)) Ended
front_from held total names = texts_read held [] total (before_stdin names)

-- standard input is next
front_dash : (held : Named) (total : ℕ) (names others : List (List ℕ)) (name : List ℕ) → names ≡ name ∷ others → is_dash name ≡ true → front_from held total names ≡ Ok []
front_dash held total names others name e is = ap (front_from held total) e ∙ ap (λ (b : Bool). texts_read held [] total (if b then [] else name ∷ before_stdin others)) is

either_same : (b : Bool) (xs : List ℕ) → (if b then xs else xs) ≡ xs
either_same true xs = refl
either_same false xs = refl

-- a file is next
front_file : (held : Named) (total : ℕ) (names others : List (List ℕ)) (name : List ℕ) → names ≡ name ∷ others → is_dash name ≡ false
    → front_from held total names ≡ read_on (input_read held [] total name) (λ text. front_from held (total + length text) others)
front_file held total names others name e is =
    ap (front_from held total) e
    ∙ ap (λ (b : Bool). texts_read held [] total (if b then [] else name ∷ before_stdin others)) is
    ∙ ap (λ (left : List ℕ). read_on (input_read held [] total name) (λ text. texts_read held left (total + length text) (before_stdin others))) (either_same (is_dash name) [])

-- what is still to be refused begins with a file
is_file : (held : Named) (total : ℕ) (names others : List (List ℕ)) (name : List ℕ) (refusal : Ended) → names ≡ name ∷ others → front_from held total names ≡ Err refusal → is_dash name ≡ false
is_file held total names others name refusal e due = go (is_dash name) refl
  where
    go : (b : Bool) → is_dash name ≡ b → b ≡ false
    go true is = absurd (let none = sym (front_dash held total names others name e is) ∙ due in cc)
    go false is = refl

with_err : (text : List ℕ) (r : Result (List (List ℕ)) Ended) (ended : Ended) → with_text text r ≡ Err ended → r ≡ Err ended
with_err text (Ok texts) ended e = absurd (let h = e in cc)
with_err text (Err other) ended e = e

same_end : (r : Result (List (List ℕ)) Ended) (one other : Ended) → r ≡ Err one → r ≡ Err other → one ≡ other
same_end r one other e f = cc

-- a file's content is told where the files are
tells_file : (contents : Option Named) (left : Option (List ℕ)) (held : Named) (name : List ℕ) → is_dash name ≡ false → contents ≡ Some held → Tells contents left held [] name
tells_file contents left held name is told = subst (λ (b : Bool). MatchBool b (left ≡ Some []) (contents ≡ Some held)) (sym is) told

-- a file is not refused for a read of standard input
file_refused : (contents : Option Named) (left : Option (List ℕ)) (i f : Type 0) (name : List ℕ) (ended : Ended) → is_dash name ≡ false → Refuses (found_input contents left i f) name ended → Refuses (found_input contents left ⊥ f) name ended
file_refused contents left i f name (CannotRead other) is why =
    (why.0, subst (λ (b : Bool). MatchBool b ⊥ (f ⊎ IsMissing contents name)) (sym is) (subst (λ (b : Bool). MatchBool b i (f ⊎ IsMissing contents name)) is why.1))
file_refused contents left i f name (InputTooLarge other limit) is why = why
file_refused contents left i f name Memory is why = tt
file_refused contents left i f name ended is why = absurd why

-- what is refused in front of standard input is still to come, and that is untouched
abbrev pub IsDue : {A : Type 0} → Named → List (List ℕ) → ℕ → ℕ → A → A → Type 0
IsDue held names i total before now = (refusal : Ended) → IsRefusedInFront held names refusal → (front_from held total (drop i names) ≡ Err refusal) × (now ≡ before)

module _ {A : Type 0} (names : List (List ℕ)) (i : ℕ) (name : List ℕ) (held : Named) (total : ℕ) (before mid : A) (lt : i < length names) (is : name ≡ get_or names i name) (due : IsDue held names i total before mid) where
  next : drop i names ≡ name ∷ drop (i + 1) names
  next = next_name names i name lt is

  file_next : (refusal : Ended) → IsRefusedInFront held names refusal → is_dash name ≡ false
  file_next refusal first = is_file held total (drop i names) (drop (i + 1) names) name refusal next (due refusal first).0

  -- what the next input gives, and then the others
  goes_on : (refusal : Ended) → IsRefusedInFront held names refusal → read_on (input_read held [] total name) (λ text. front_from held (total + length text) (drop (i + 1) names)) ≡ Err refusal
  goes_on refusal first = sym (front_file held total (drop i names) (drop (i + 1) names) name next (file_next refusal first)) ∙ (due refusal first).0

  refused_so : (ended refusal : Ended) → IsRefusedInFront held names refusal → input_read held [] total name ≡ Err ended → ended ≡ refusal
  refused_so ended refusal first read =
      same_end (read_on (input_read held [] total name) (λ text. front_from held (total + length text) (drop (i + 1) names))) ended refusal
      (ap (λ r. read_on r (λ text. front_from held (total + length text) (drop (i + 1) names))) read) (goes_on refusal first)

  pub turn_kept : (now : A) → (is_dash name ≡ false → now ≡ mid) → (refusal : Ended) → IsRefusedInFront held names refusal → now ≡ before
  turn_kept now same refusal first = same (file_next refusal first) ∙ (due refusal first).1

  module _ (contents contents_now : Option Named) (left left_now : Option (List ℕ)) (still : contents_now ≡ contents) (told : contents ≡ Some held) where
    pub front_refused : (p f : Type 0) (ended refusal : Ended) → Refuses (found_input contents_now left p f) name ended → IsRefusedInFront held names refusal → (ended ≡ refusal) ⊎ GaveUp ⊥ f ended
    front_refused p f ended refusal why first =
        go
        (refusal_told contents_now left held [] name total ⊥ f ended (tells_file contents_now left held name (file_next refusal first) (still ∙ told))
        (file_refused contents_now left p f name ended (file_next refusal first) why))
      where
        go : (input_read held [] total name ≡ Err ended) ⊎ GaveUp ⊥ f ended → (ended ≡ refusal) ⊎ GaveUp ⊥ f ended
        go (inl read) = inl (refused_so ended refusal first read)
        go (inr gave_up) = inr gave_up

    module _ (text : List ℕ) (read : HasRead contents_now left left_now name text) where
      holds : (refusal : Ended) → IsRefusedInFront held names refusal → content held [] name ≡ Some text
      holds refusal first = content_read contents_now left left_now held [] name text (tells_file contents_now left held name (file_next refusal first) (still ∙ told)) read

      pub front_over : (f : Type 0) (ended refusal : Ended) → LARGEST_TOGETHER < total + length text → (ended ≡ InputTooLarge name LARGEST_TOGETHER) ⊎ (ended ≡ Memory) → IsRefusedInFront held names refusal → (ended ≡ refusal) ⊎ GaveUp ⊥ f ended
      front_over f ended refusal over (inl large) first = inl (large ∙ refused_so (InputTooLarge name LARGEST_TOGETHER) refusal first (input_over held [] name text total (holds refusal first) read.few over))
      front_over f ended refusal over (inr none) first = inr (subst (GaveUp ⊥ f) (sym none) tt)

      pub due_on : (now : A) (bytes : List ℕ) → bytes ≡ text → total + length bytes ≤ LARGEST_TOGETHER → (is_dash name ≡ false → now ≡ mid) → IsDue held names (i + 1) (total + length bytes) before now
      due_on now bytes same few kept = λ refusal first.
          let fits : total + length text ≤ LARGEST_TOGETHER = subst (λ (l : List ℕ). total + length l ≤ LARGEST_TOGETHER) same few in
          let gives = input_ok held [] name text total (holds refusal first) read.few fits in
          let rest = with_err text (front_from held (total + length text) (drop (i + 1) names)) refusal
          (sym (ap (λ r. read_on r (λ t. front_from held (total + length t) (drop (i + 1) names))) gives) ∙ goes_on refusal first) in
          (subst (λ (l : List ℕ). front_from held (total + length l) (drop (i + 1) names) ≡ Err refusal) (sym same) rest, turn_kept now kept refusal first)

-- nothing is left to be refused
pub none_due : {A : Type 0} (names : List (List ℕ)) (i : ℕ) (held : Named) (total : ℕ) (before now : A) (refusal : Ended) → length names ≤ i → IsDue held names i total before now → IsRefusedInFront held names refusal → ⊥
none_due names i held total before now refusal end due first =
    let none : front_from held total (drop i names) ≡ Ok [] = ap (front_from held total) (none_behind names i end) in
    let clash = sym none ∙ (due refusal first).0 in cc
