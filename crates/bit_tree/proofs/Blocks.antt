-- A block that a writer ended is read as that block.
use Rattle.std.proofs.Common.{◌≡◌, ℕ, ◌+◌, ◌-◌, ◌<◌, ◌≤◌, ◌^◌, ◌%◌, ◌/◌, ◌==◌, ◌||◌, Bool, true, false, List, [], ◌∷◌, ◌++◌, length, take, Some, Ok, refl, sym, ap, ◌∙◌, arith, append_assoc, length-append}
use Rattle.std.specs.Prelude.{nat_lt, slice_index_or}
use Rattle.std.proofs.lemmas.Bool.{lt-leb, ne_eqb, eq-eqb, le-ltb}
use Rattle.std.proofs.lemmas.List.{append-nil, take_at, get_or_at}
use Rattle.std.proofs.Math.Nat.{mod-eq_of_lt}
use Rattle.bit_stream.specs.Bits.Bits.{bits_of}
use Rattle.bit_stream.specs.Bits.Writing.{pad_bits}
use Rattle.bit_stream.specs.Bits.Cursor.{Cursor}
use Rattle.bit_stream.specs.Bits.Reading.{fixed}
use Rattle.bit_stream.proofs.OnBits.BitsLaws.{length-bits_of}
use Rattle.bit_stream.specs.declared.entry.Entry.TheVariants.{Block, EndBlock}
use Rattle.bit_stream.specs.Scope.{Scope, abbreviation_of}
use Rattle.bit_stream.specs.Entry.{StreamItem, item, plain, is_top, is_blockinfo, entered, block_left, inside, enter_block, words_since, end_block as read_end}
use Rattle.bit_stream.specs.Spelling.{chunks, aligned, abbreviation_for}
use Rattle.bit_stream.specs.Writer.{Writer, id_bits, enter, ended, end_block, define, in_force, put_record, abbreviated}
use Rattle.bit_tree.specs.Stream.{StreamTree, block, values, Stands, Holds, none, of_block}
use Rattle.bit_stream.proofs.ReadBack.{fixed_reads, vbr_reads, item_inside}
use Rattle.bit_tree.specs.Written.{Written, no_more, a_block, a_definition, a_record, a_short_record, written, tree_of, with_definition, with_values, MayEnter, MayEnd, Allowed}
use Rattle.bit_tree.proofs.Places.{align_from, pad_size}
use Rattle.bit_tree.proofs.Alike.{Alike, SameBlocks, same_blocks, same_on, alike_blockinfo, alike_entered, left_is, alike_left}
use Rattle.bit_tree.proofs.Step.{Ready, After, Stepped, id_small, id_read, define_step, put_step, abbreviated_step}

-- a reader behind what was written
pub record Arrives (s v : Scope) (c d : Cursor) (tree : StreamTree) : Type 0 where
  pub scope : Scope
  pub alike : Alike scope v
  pub same : SameBlocks s scope
  pub way : Holds s c tree scope d

-- what was written behind a writer's bits is read as its tree wherever it stands
pub record Comes (w : Writer) (x : Written) : Type 0 where
  pub more : List Bool
  pub bits : (written w x).bits ≡ w.bits ++ more
  pub around : (written w x).around ≡ w.around
  pub scopes : (written w x).scope.around ≡ w.scope.around
  pub ready : Ready (written w x).scope
  pub reads : (s : Scope) → Alike s w.scope → (at : ℕ) (rest : List Bool) → at % 32 ≡ length w.bits % 32
      → Arrives s (written w x).scope (record { at = at; rest = more ++ rest }) (record { at = at + length more; rest = rest }) (tree_of w x)

-- ENTER_SUBBLOCK

not_wide : (width : ℕ) → 2 ≤ width → width ≤ 32 → nat_lt width 2 || nat_lt 32 width ≡ false
not_wide width low high = rw (le-ltb width 2 low, le-ltb 32 width high) refl

abbrev enter_bits : ℕ → ℕ → ℕ → ℕ → List Bool
enter_bits n id width words =
    let b = chunks 8 id in
    let e = chunks 4 width in
    b ++ (e ++ (pad_bits (n + length b + length e) ++ bits_of 32 words))

abbrev count_at : (n at id width : ℕ) → ℕ
count_at n at id width = at + length (chunks 8 id) + length (chunks 4 width) + length (pad_bits (n + length (chunks 8 id) + length (chunks 4 width)))

enter_read : (s : Scope) (n at id width words : ℕ) (rest : List Bool) → at % 32 ≡ n % 32 → id < 2 ^ 32 → length s.around < 16 → 2 ≤ width → width ≤ 32 → words < 2 ^ 32
    → enter_block s (record { at = at; rest = enter_bits n id width words ++ rest })
    ≡ Ok (plain (Some (Block id)) (entered s id width (count_at n at id width) words), record { at = count_at n at id width + 32; rest = rest })
unfolding enter_block
enter_read s n at id width words rest same small shallow low high few =
    let b = chunks 8 id in
    let e = chunks 4 width in
    let p = pad_bits (n + length b + length e) in
    let q = bits_of 32 words in
    let whole : (b ++ (e ++ (p ++ q))) ++ rest ≡ b ++ (e ++ (p ++ (q ++ rest))) = simp append_assoc in
    let word : (at + length b + length e) % 32 ≡ (n + length b + length e) % 32 = omega arith in
    let depth : (length s.around == 16) ≡ false = ne_eqb (length s.around) 16 (λ e. omega arith) in
    rw (
      whole,
      vbr_reads 8 id (omega arith) (omega arith) at (e ++ (p ++ (q ++ rest))),
      lt-leb (2 ^ 32) id small,
      depth,
      vbr_reads 4 width (omega arith) (omega arith) (at + length b) (p ++ (q ++ rest)),
      not_wide width low high,
      align_from (n + length b + length e) (at + length b + length e) (q ++ rest) word,
      fixed_reads 32 words few (at + length b + length e + length p) rest,
      length-bits_of 32 words,
    ) refl

item_enters : (s : Scope) (c d : Cursor) → is_blockinfo s ≡ false → 0 < length c.rest → fixed s.block.width c ≡ Ok (1, d) → item s c ≡ enter_block s d
unfolding item inside
item_enters s c d ordinary some id = by_top (is_top s) refl where
  by_top : (b : Bool) → is_top s ≡ b → item s c ≡ enter_block s d
  by_top true top = let left : (length c.rest == 0) ≡ false = ne_eqb (length c.rest) 0 (λ e. omega arith) in rw (top, left, id) refl
  by_top false within = rw (within, id, ordinary) refl

-- END_BLOCK

end_read : (s : Scope) (n at words : ℕ) (rest : List Bool) → at % 32 ≡ n % 32 → words_since s.block.count_bit (at + length (pad_bits n)) ≡ s.block.words
    → read_end s (record { at = at; rest = pad_bits n ++ rest }) ≡ Ok (plain (Some EndBlock) (block_left s), record { at = at + length (pad_bits n); rest = rest })
unfolding read_end
end_read s n at words rest same count = rw (align_from n at rest same, eq-eqb _ _ count) refl

item_ends : (s : Scope) (c d e : Cursor) (i : StreamItem) → is_top s ≡ false → fixed s.block.width c ≡ Ok (0, d) → read_end s d ≡ Ok (i, e) → item s c ≡ Ok (i, e)
unfolding inside
item_ends s c d e i within id h = item_inside s c d 0 within id ∙ h

ready_left : (v u : Scope) → Ready v → Ready u → u.around ≡ v.around ++ v.block ∷ [] → Ready (block_left u)
ready_left v u h k is = rw (left_is v u is) (record { sound = record { own = h.sound.own; table = k.sound.table }; wide = h.wide })

same_left : (s t : Scope) → t.around ≡ s.around ++ s.block ∷ [] → SameBlocks s (block_left t)
same_left s t is = rw (left_is s t is) (record { around = refl; count_bit = refl; words = refl })

-- the end of the block's inside
inside_end : (x : Writer) (s : Scope) (bit at : ℕ) (rest : List Bool) → Alike s x.scope → Ready x.scope → is_top s ≡ false → s.block.count_bit ≡ bit → s.block.words ≡ length (ended x) / 32 → bit % 32 ≡ 0 → at ≡ bit + 32 + length x.bits
    → item s (record { at = at; rest = id_bits x 0 ++ (pad_bits (length (x.bits ++ id_bits x 0)) ++ rest) }) ≡ Ok (plain (Some EndBlock) (block_left s), record { at = bit + 32 + length (ended x); rest = rest })
inside_end x s bit at rest alike ready within count words word place =
    let z = id_bits x 0 in
    let n = length (x.bits ++ z) in
    let size : n ≡ length x.bits + length z = length-append x.bits z in
    let all : length (ended x) ≡ n + length (pad_bits n) = length-append (x.bits ++ z) (pad_bits n) in
    let behind : at + length z + length (pad_bits n) ≡ bit + 32 + length (ended x) = omega arith in
    let same : (at + length z) % 32 ≡ n % 32 = omega arith in
    let since : words_since s.block.count_bit (at + length z + length (pad_bits n)) ≡ s.block.words = rw (behind, count, words) (omega arith) in
    let id : fixed s.block.width (record { at = at; rest = z ++ (pad_bits n ++ rest) }) ≡ Ok (0, record { at = at + length z; rest = pad_bits n ++ rest })
    = rw alike.width (fixed_reads x.scope.block.width 0 (id_small x.scope.block.width 0 ready.wide (omega arith)) at (pad_bits n ++ rest)) in
    let read = end_read s n (at + length z) 0 rest same since in
    rw behind at (item_ends s _ _ _ _ within id read)

-- the block begins
enters : (s v : Scope) (n at id width words : ℕ) (rest : List Bool) → Alike s v → Ready v → at % 32 ≡ n % 32 → id < 2 ^ 32 → length v.around < 16 → is_blockinfo v ≡ false → 2 ≤ width → width ≤ 32 → words < 2 ^ 32
    → (let a = bits_of v.block.width 1 in
    let bit = count_at (n + length a) (at + length a) id width in
    Stands s (record { at = at; rest = (a ++ enter_bits (n + length a) id width words) ++ rest }) (Some (Block id)) (plain (Some (Block id)) (entered s id width bit words)) (record { at = bit + 32; rest = rest }))
enters s v n at id width words rest alike ready same small shallow ordinary low high few =
    let a = bits_of v.block.width 1 in
    let bits = enter_bits (n + length a) id width words in
    let first : length ((a ++ bits) ++ rest) ≡ length a + length bits + length rest = omega (arith, length-append (a ++ bits) rest, length-append a bits) in
    let some : 0 < length ((a ++ bits) ++ rest) = omega (arith, length-bits_of v.block.width 1, ready.wide) in
    let word : (at + length a) % 32 ≡ (n + length a) % 32 = omega arith in
    let outside = alike_blockinfo s v alike ∙ ordinary in
    let depth : length s.around < 16 = omega (arith, alike.depth) in
    let id_there = id_read s v 1 at bits rest alike (id_small v.block.width 1 ready.wide (omega arith)) in
    record { reads = item_enters s (record { at = at; rest = (a ++ bits) ++ rest }) _ outside some id_there ∙ enter_read s (n + length a) (at + length a) id width words rest word small depth low high few; is = refl }

-- the whole block, by its bits
block_reads : (s v : Scope) (x : Writer) (n at id width : ℕ) (m rest : List Bool) (tree : StreamTree) → Alike s v → Ready v → Ready x.scope → at % 32 ≡ n % 32 → id < 2 ^ 32 → length v.around < 16 → is_blockinfo v ≡ false → 2 ≤ width → width ≤ 32 → length (ended x) / 32 < 2 ^ 32
    → x.bits ≡ m → x.scope.around ≡ v.around ++ v.block ∷ []
    → ((t : Scope) → Alike t (entered v id width 0 0) → (at : ℕ) (rest : List Bool) → at % 32 ≡ 0 → Arrives t x.scope (record { at = at; rest = m ++ rest }) (record { at = at + length m; rest = rest }) tree)
    → (let a = bits_of v.block.width 1 in
    let bits = (a ++ enter_bits (n + length a) id width (length (ended x) / 32)) ++ ended x in
    After s (block_left x.scope) (record { at = at; rest = bits ++ rest }) (record { at = at + length bits; rest = rest }) (λ y. block id width (length (ended x) / 32) tree y))
block_reads s v x n at id width m rest tree alike ready ready_x same small shallow ordinary low high few bits_are scopes inner =
    let a = bits_of v.block.width 1 in
    let words = length (ended x) / 32 in
    let bit = count_at (n + length a) (at + length a) id width in
    let head = a ++ enter_bits (n + length a) id width words in
    let z = id_bits x 0 in
    let r = pad_bits (length (x.bits ++ z)) in
    let b = chunks 8 id in
    let e = chunks 4 width in
    let p = pad_bits (n + length a + length b + length e) in
    let pad = pad_size (n + length a + length b + length e) in
    let word : bit % 32 ≡ 0 = omega (arith, pad, same) in
    let next : (bit + 32) % 32 ≡ 0 = omega arith in
    let size_head : length head ≡ length a + (length b + (length e + (length p + 32)))
    = omega (arith, length-append a (enter_bits (n + length a) id width words), length-append b (e ++ (p ++ bits_of 32 words)), length-append e (p ++ bits_of 32 words), length-append p (bits_of 32 words), length-bits_of 32 words) in
    let last : bit + 32 + length (ended x) ≡ at + length (head ++ ended x) = omega (arith, size_head, length-append head (ended x)) in
    let tail : ended x ++ rest ≡ m ++ (z ++ (r ++ rest)) = ap (λ (l : List Bool). ((l ++ z) ++ r) ++ rest) bits_are ∙ simp append_assoc in
    let whole : (head ++ ended x) ++ rest ≡ head ++ (m ++ (z ++ (r ++ rest))) = append_assoc head (ended x) rest ∙ ap (λ (l : List Bool). head ++ l) tail in
    let first = enters s v n at id width words (m ++ (z ++ (r ++ rest))) alike ready same small shallow ordinary low high few in
    let inside = inner (entered s id width bit words) (alike_entered s v id width bit words alike) (bit + 32) (z ++ (r ++ rest)) next in
    let around : inside.scope.around ≡ s.around ++ s.block ∷ [] = inside.same.around in
    let deep : is_top inside.scope ≡ false = ne_eqb (length inside.scope.around) 0 (λ none. (let size = ap length around in omega (arith, length-append s.around (s.block ∷ [])))) in
    let place : bit + 32 + length m ≡ bit + 32 + length x.bits = ap (λ (l : List Bool). bit + 32 + length l) (sym bits_are) in
    let end = inside_end x inside.scope bit (bit + 32 + length m) rest inside.alike ready_x deep inside.same.count_bit inside.same.words word place in
    record {
      scope = block_left inside.scope;
      alike = alike_left s v inside.scope x.scope alike inside.alike around scopes;
      same = same_left s inside.scope around;
      way = λ behind u g h. (
          let there = rw (← last) at h in
          let all = of_block first inside.way (record { reads = end; is = refl }) there in
          rw whole all);
    }

pub block_step : (w : Writer) (id width : ℕ) (inside : Written) → Ready w.scope → MayEnter w id width → Comes (enter w id width) inside → MayEnd (written (enter w id width) inside)
    → Stepped w (end_block (written (enter w id width) inside)) (λ y. block id width (length (ended (written (enter w id width) inside)) / 32) (tree_of (enter w id width) inside) y)
block_step w id width inside ready may inner few =
    let x = written (enter w id width) inside in
    let a = id_bits w 1 in
    let b = chunks 8 id in
    let e = chunks 4 width in
    let n = length w.bits + length a in
    let p = pad_bits (n + length b + length e) in
    let q = bits_of 32 (length (ended x) / 32) in
    let outer = aligned (w.bits ++ a ++ b ++ e) in
    let size : length (w.bits ++ a ++ b ++ e) ≡ n + length b + length e = omega (arith, length-append (w.bits ++ a ++ b) e, length-append (w.bits ++ a) b, length-append w.bits a) in
    let stack : x.around ≡ w.around ++ outer ∷ [] = inner.around in
    let less : length x.around - 1 ≡ length w.around = omega (arith, ap length stack, length-append w.around (outer ∷ [])) in
    let first : slice_index_or x.around (length x.around - 1) [] ≡ outer = rw (less, stack) (get_or_at w.around outer [] [] (length w.around) refl) in
    let others : take (length x.around - 1) x.around ≡ w.around = rw (less, stack) (take_at w.around (outer ∷ []) (length w.around) refl) in
    let count : length (ended x) / 32 % 2 ^ 32 ≡ length (ended x) / 32 = mod-eq_of_lt few in
    let outer_is : outer ≡ w.bits ++ (a ++ (b ++ (e ++ p))) = rw size (simp append_assoc) in
    record {
      more = (a ++ (b ++ (e ++ (p ++ q)))) ++ ended x;
      bits = rw (first, count, outer_is) (simp append_assoc);
      around = others;
      scopes = ap (λ (s : Scope). s.around) (left_is w.scope x.scope inner.scopes);
      ready = ready_left w.scope x.scope ready inner.ready inner.scopes;
      reads = λ s alike at rest same.
          block_reads s w.scope x (length w.bits) at id width inner.more rest (tree_of (enter w id width) inside) alike ready inner.ready same may.id_small may.shallow may.ordinary may.low may.high few inner.bits inner.scopes
          (λ t close at rest word. inner.reads t close at rest word);
    }

pub ready_entered : (w : Writer) (id width : ℕ) → Ready w.scope → 2 ≤ width → Ready (enter w id width).scope
ready_entered w id width ready low = record { sound = record { own = tt; table = ready.sound.table }; wide = low }

-- behind what was written, nothing more
none_comes : (w : Writer) → Ready w.scope → Comes w no_more
unfolding written tree_of
none_comes w ready = record {
  more = [];
  bits = sym (append-nil w.bits);
  around = refl;
  scopes = refl;
  ready = ready;
  reads = λ s alike at rest same. (let place : at ≡ at + 0 = omega arith in rw (← place) (record { scope = s; alike = alike; same = same_blocks s; way = none }));
}

-- a call, and what was written behind it
joined : (w new : Writer) (x y : Written) (node : StreamTree → StreamTree) → written w y ≡ written new x → tree_of w y ≡ node (tree_of new x) → Stepped w new node → Comes new x → Comes w y
joined w new x y node same_writer same_tree first behind = record {
  more = first.more ++ behind.more;
  bits = rw same_writer (behind.bits ∙ (ap (λ (l : List Bool). l ++ behind.more) first.bits ∙ append_assoc w.bits first.more behind.more));
  around = rw same_writer (behind.around ∙ first.around);
  scopes = rw same_writer (behind.scopes ∙ first.scopes);
  ready = rw same_writer behind.ready;
  reads = λ s alike at rest same. (
      let one = first.reads s alike at (behind.more ++ rest) same in
      let word : (at + length first.more) % 32 ≡ length new.bits % 32 = omega (arith, same, ap length first.bits, length-append w.bits first.more) in
      let two = behind.reads one.scope one.alike (at + length first.more) rest word in
      let place : at + length first.more + length behind.more ≡ at + length (first.more ++ behind.more) = omega (arith, length-append first.more behind.more) in
      let way = one.way (tree_of new x) two.scope _ two.way in
      rw (same_writer, same_tree) (record { scope = two.scope; alike = two.alike; same = same_on s one.scope two.scope one.same two.same; way = rw (append_assoc, ← place) way }));
}

-- all that may be written is read back
pub comes : (x : Written) (w : Writer) → Ready w.scope → Allowed w x → Comes w x
unfolding written tree_of Allowed
comes no_more w ready all = none_comes w ready
comes (a_block id width inside behind) w ready all =
    let inner = comes inside (enter w id width) (ready_entered w id width ready all.0.low) all.1 in
    let step = block_step w id width inside ready all.0 inner all.2 in
    joined w (end_block (written (enter w id width) inside)) behind (a_block id width inside behind) (λ y. block id width (length (ended (written (enter w id width) inside)) / 32) (tree_of (enter w id width) inside) y) refl refl step (comes behind (end_block (written (enter w id width) inside)) step.ready all.3)
comes (a_definition ops behind) w ready all =
    let step = define_step w ops ready all.0 in
    joined w (define w ops) behind (a_definition ops behind) (λ y. with_definition (in_force w.scope + 4) (abbreviation_for ops) y) refl refl step (comes behind (define w ops) step.ready all.1)
comes (a_record code ns behind) w ready all =
    let step = put_step w code ns ready all.0 in
    joined w (put_record w code ns) behind (a_record code ns behind) (λ y. values 3 code ns false [] y) refl refl step (comes behind (put_record w code ns) step.ready all.1)
comes (a_short_record id code ns behind) w ready all =
    let step = abbreviated_step w id code ns ready all.0 in
    joined w (abbreviated w id code ns) behind (a_short_record id code ns behind) (λ y. with_values id (abbreviation_of w.scope id) code ns y) refl refl step (comes behind (abbreviated w id code ns) step.ready all.1)
