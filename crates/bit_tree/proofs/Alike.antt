-- A reader's open blocks and a writer's: alike but for the counts of words, which a writer learns late.
use Rattle.std.proofs.Common.{◌≡◌, ℕ, zero, suc, ◌-◌, ◌^◌, ◌==◌, ◌&&◌, Bool, true, false, List, [], ◌∷◌, ◌++◌, length, take, Option, Some, None, Result, Ok, if◌then◌else◌, refl, ap, ◌∙◌, arith, length-append}
use Rattle.std.specs.Prelude.{slice_index_or}
use Rattle.std.proofs.lemmas.Bool.{lt-leb}
use Rattle.std.proofs.lemmas.List.{take_at, get_or_at}
use Rattle.bit_stream.specs.declared.bits.fault.BitFault.{BitFault}
use Rattle.bit_stream.specs.Abbreviation.{AdmittedAbbreviation}
use Rattle.bit_stream.specs.Scope.{Scope, abbreviation_of}
use Rattle.bit_stream.specs.Record.{names_block}
use Rattle.bit_stream.specs.Entry.{is_top, is_blockinfo, entered, block_left, with_target, recorded}
use Rattle.bit_stream.specs.Writer.{with_abbreviation, given_count, in_force, naming, after_record}
use Rattle.bit_stream.specs.declared.abbreviation.Tail.{Tail}
use Rattle.bit_stream.specs.declared.abbreviation.Tail.TheVariants.{NoTail, Elements, Bytes}
use Rattle.bit_tree.specs.Written.{NamesFirst, front_of}
use Rattle.bit_tree.proofs.Values.{Fine}

pub record Alike (s v : Scope) : Type 0 where
  pub id : s.block.id ≡ v.block.id
  pub width : s.block.width ≡ v.block.width
  pub given : s.block.given ≡ v.block.given
  pub own : s.block.own ≡ v.block.own
  pub target : s.block.target ≡ v.block.target
  pub table : s.given ≡ v.given
  pub depth : length s.around ≡ length v.around

-- the same blocks are open, with their counts
pub record SameBlocks (s t : Scope) : Type 0 where
  pub around : t.around ≡ s.around
  pub count_bit : t.block.count_bit ≡ s.block.count_bit
  pub words : t.block.words ≡ s.block.words

pub same_blocks : (s : Scope) → SameBlocks s s
same_blocks s = record { around = refl; count_bit = refl; words = refl }

pub same_on : (s t u : Scope) → SameBlocks s t → SameBlocks t u → SameBlocks s u
same_on s t u h k = record { around = k.around ∙ h.around; count_bit = k.count_bit ∙ h.count_bit; words = k.words ∙ h.words }

pub alike_self : (s : Scope) → Alike s s
alike_self s = record { id = refl; width = refl; given = refl; own = refl; target = refl; table = refl; depth = refl }

pub alike_top : (s v : Scope) → Alike s v → is_top s ≡ is_top v
alike_top s v h = ap (λ (n : ℕ). n == 0) h.depth

pub alike_blockinfo : (s v : Scope) → Alike s v → is_blockinfo s ≡ is_blockinfo v
alike_blockinfo s v h = rw h.id refl

pub alike_abbreviation : (s v : Scope) (id : ℕ) → Alike s v → abbreviation_of s id ≡ abbreviation_of v id
alike_abbreviation s v id h = rw (h.given, h.own, h.table, h.id) refl

alike_count : (s v : Scope) (o : Option ℕ) → s.given ≡ v.given → given_count s o ≡ given_count v o
alike_count s v None h = refl
alike_count s v (Some id) h = rw h refl

pub alike_in_force : (s v : Scope) → Alike s v → in_force s ≡ in_force v
alike_in_force s v h = rw (alike_blockinfo s v h, h.target, alike_count s v v.block.target h.table, h.given, h.own) refl

-- definitions

pub alike_defined : (s v : Scope) (t : AdmittedAbbreviation) → Alike s v → Alike (with_abbreviation s (Some t)) (with_abbreviation v (Some t))
alike_defined s v t h = by_block (is_blockinfo v) refl where
  by_target : (o : Option ℕ) → v.block.target ≡ o → is_blockinfo v ≡ true → Alike (with_abbreviation s (Some t)) (with_abbreviation v (Some t))
  by_target None none info = rw (alike_blockinfo s v h, info, h.target, none) (record { id = h.id; width = h.width; given = h.given; own = h.own; target = refl; table = h.table; depth = h.depth })
  by_target (Some id) some info = rw (alike_blockinfo s v h, info, h.target, some) (record { id = h.id; width = h.width; given = h.given; own = h.own; target = refl; table = rw h.table refl; depth = h.depth })

  by_block : (b : Bool) → is_blockinfo v ≡ b → Alike (with_abbreviation s (Some t)) (with_abbreviation v (Some t))
  by_block true info = by_target v.block.target refl info
  by_block false plain = rw (alike_blockinfo s v h, plain) (record { id = h.id; width = h.width; given = h.given; own = rw h.own refl; target = h.target; table = h.table; depth = h.depth })

pub same_defined : (s : Scope) (t : AdmittedAbbreviation) → SameBlocks s (with_abbreviation s (Some t))
same_defined s t = by_block (is_blockinfo s) refl where
  by_target : (o : Option ℕ) → s.block.target ≡ o → is_blockinfo s ≡ true → SameBlocks s (with_abbreviation s (Some t))
  by_target None none info = rw (info, none) (record { around = refl; count_bit = refl; words = refl })
  by_target (Some id) some info = rw (info, some) (record { around = refl; count_bit = refl; words = refl })

  by_block : (b : Bool) → is_blockinfo s ≡ b → SameBlocks s (with_abbreviation s (Some t))
  by_block true info = by_target s.block.target refl info
  by_block false plain = rw plain (record { around = refl; count_bit = refl; words = refl })

-- records

alike_naming : (s v : Scope) (ns : List ℕ) → Alike s v → Alike (naming s ns) (naming v ns)
alike_naming s v [] h = h
alike_naming s v (id ∷ others) h = record { id = h.id; width = h.width; given = h.given; own = h.own; target = refl; table = h.table; depth = h.depth }

pub alike_recorded : (s v : Scope) (code : ℕ) (ns : List ℕ) → Alike s v → Alike (after_record s code ns) (after_record v code ns)
alike_recorded s v code ns h = rw (alike_blockinfo s v h) (by_test (is_blockinfo v && (code == 1))) where
  by_test : (b : Bool) → Alike (if b then naming s ns else s) (if b then naming v ns else v)
  by_test true = alike_naming s v ns h
  by_test false = h

same_naming : (s : Scope) (ns : List ℕ) → SameBlocks s (naming s ns)
same_naming s [] = same_blocks s
same_naming s (id ∷ others) = record { around = refl; count_bit = refl; words = refl }

pub same_recorded : (s : Scope) (code : ℕ) (ns : List ℕ) → SameBlocks s (after_record s code ns)
same_recorded s code ns = by_test (is_blockinfo s && (code == 1)) where
  by_test : (b : Bool) → SameBlocks s (if b then naming s ns else s)
  by_test true = same_naming s ns
  by_test false = same_blocks s

-- the operands that are read name the block that those that were written name
naming_front : (s : Scope) (t : Tail) (k : ℕ) (ns : List ℕ) → NamesFirst (front_of t k ns) → naming s (front_of t k ns) ≡ naming s ns
naming_front s NoTail k ns h = refl
naming_front s (Elements x) k ns h = refl
naming_front s Bytes zero ns h = absurd h
naming_front s Bytes (suc k) [] h = absurd h
naming_front s Bytes (suc k) (n ∷ ns) h = refl

named_is : (bit : ℕ) (s : Scope) (ns : List ℕ) → NamesFirst ns → with_target bit s ns ≡ Ok (naming s ns)
named_is bit s [] h = absurd h
named_is bit s (n ∷ ns) h = refl

pub recorded_is : (bit : ℕ) (s : Scope) (code : ℕ) (t : Tail) (k : ℕ) (ns : List ℕ) → (names_block (is_blockinfo s) code ≡ true → NamesFirst (front_of t k ns)) → recorded bit s code (front_of t k ns) ≡ Ok (after_record s code ns)
unfolding recorded
recorded_is bit s code t k ns names = by_test (is_blockinfo s && (code == 1)) names where
  by_test : (b : Bool) → (b ≡ true → NamesFirst (front_of t k ns)) → (if b then with_target bit s (front_of t k ns) else Ok s) ≡ (let all : Result Scope BitFault = Ok (if b then naming s ns else s) in all)
  by_test true h = named_is bit s (front_of t k ns) (h refl) ∙ ap (λ (x : Scope). Ok x) (naming_front s t k ns (h refl))
  by_test false h = refl

pub fine_names : (b : Bool) (ns : List ℕ) → (b ≡ true → NamesFirst ns) → Fine b [] ns
fine_names b [] h = tt
fine_names true (n ∷ ns) h = rw (lt-leb (2 ^ 32) n (h refl)) refl
fine_names false (n ∷ ns) h = refl

-- blocks

pub alike_entered : (s v : Scope) (id width bit words : ℕ) → Alike s v → Alike (entered s id width bit words) (entered v id width 0 0)
alike_entered s v id width bit words h = record { id = refl; width = refl; given = rw h.table refl; own = refl; target = refl; table = h.table; depth = omega (arith, h.depth, length-append s.around (s.block ∷ []), length-append v.around (v.block ∷ [])) }

-- a block is left for the one that it was entered from
pub left_is : (s t : Scope) → t.around ≡ s.around ++ s.block ∷ [] → block_left t ≡ record { block = s.block; around = s.around; given = t.given }
left_is s t h =
    let size : length t.around - 1 ≡ length s.around = omega (arith, ap length h, length-append s.around (s.block ∷ [])) in
    let block : slice_index_or t.around (length t.around - 1) t.block ≡ s.block = rw (size, h) (get_or_at s.around s.block [] t.block (length s.around) refl) in
    let around : take (length t.around - 1) t.around ≡ s.around = rw (size, h) (take_at s.around (s.block ∷ []) (length s.around) refl) in
    rw (block, around) refl

pub alike_left : (s v t u : Scope) → Alike s v → Alike t u → t.around ≡ s.around ++ s.block ∷ [] → u.around ≡ v.around ++ v.block ∷ [] → Alike (block_left t) (block_left u)
alike_left s v t u h k a b = rw (left_is s t a, left_is v u b) (record { id = h.id; width = h.width; given = h.given; own = h.own; target = h.target; table = k.table; depth = h.depth })
