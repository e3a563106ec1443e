-- What a variable is set to.
use Rattle.std.proofs.Common.{◌≡◌, ◌<◌, ◌≤◌, ℕ, zero, suc, true, Option, Some, None, [], length, refl, sym, ap, ◌∙◌, arith}
use Rattle.std.specs.Option.{option_map}
use Rattle.std.proofs.lemmas.List.Elements.{All-cons, All-nil}
use Rattle.type_table.specs.Tree.{Tree}
use Rattle.module_arena.specs.Module as m
use Rattle.record_table.specs.Constants.{constant}
use Rattle.record_table.specs.Fields.{Numbering}
use Rattle.record_table.specs.Layout.{number, option, option_by}
use Rattle.record_table.specs.Walk.{Walk, next, stop}
use Rattle.record_read.specs.Reader.{Reader, Reads, is_broken, is_stopped}
use Rattle.type_read.specs.declared.arena.module_reader.ModuleReader.{ModuleReader}
use Rattle.type_read.proofs.OnArena.Lasting.{stop_broken}
use Rattle.type_read.proofs.OnArena.LeavesRead.{goes_stopped}
use Rattle.type_read.proofs.OnArena.Steps.{goes_self, goes_two}
use Rattle.body_read.proofs.OnConstants.Making.{goes_number}
use Rattle.body_read.specs.Operands.Found.{Finds}
use Rattle.body_read.proofs.OnOperands.Joined.{none_found, put, put_so, starting}
use Rattle.body_read.proofs.OnOperands.Leaves.{HasConst, const_in}
use Rattle.bitcode_read.specs.Entry.Entries.{HasHeld, held_in}

module _ (t : Tree) where
  held_none : (k : Numbering) (w v : Walk) (n : ℕ) → n ≡ 0 → n ≡ (next w).0 → v ≡ (next w).1 → (None, v) ≡ (option (constant k t)).read w
  unfolding option_by
  held_none k w v n none is at = (λ j. (None, at j)) ∙ ap (λ i. option_by (constant k t) i (next w).1) (sym none ∙ is)

  held_some : (k : Numbering) (w v : Walk) (n : ℕ) → n ≡ 1 → n ≡ (next w).0 → v ≡ (next w).1 → put (λ (c : m.Constant). Some c) (λ k. (constant k t).read) k v ≡ (option (constant k t)).read w
  unfolding option_by
  held_some k w v n one is at = (λ j. put (λ (c : m.Constant). Some c) (λ k. (constant k t).read) k (at j)) ∙ ap (λ i. option_by (constant k t) i (next w).1) (sym one ∙ is)

  held_other : (k : Numbering) (w : Walk) (n : ℕ) → 2 ≤ n → option_by (constant k t) n w ≡ (None, stop 3 w)
  unfolding option_by
  held_other k w zero le = absurd (omega arith)
  held_other k w (suc zero) le = absurd (omega arith)
  held_other k w (suc (suc n)) le = refl

  -- nothing is written
  none_written : (a : ModuleReader) → Finds HasHeld held_in (λ k w. (None, w)) a a (Some None)
  none_written a = record {
    goes = goes_self a;
    there = λ later g. All-nil (λ id. id < length later.arena.constants);
    walk = λ k n. refl;
    kept = λ k n declared unbroken later g. refl;
  }

  pub initialiser_none : (a : ModuleReader) (r : Reader) (n : ℕ) → Reads number a.reader r n → n ≡ 0 → Finds HasHeld held_in (λ k. (option (constant k t)).read) a (record a { reader = r }) (Some None)
  initialiser_none a r n front none =
      starting (λ k. (option (constant k t)).read) a (record a { reader = r }) (record a { reader = r }) (Some None) (goes_number a r n front) (none_written (record a { reader = r }))
      (λ k h. held_none k a.reader.walk r.walk n none front.value (ap (λ (q : Reader). q.walk) front.reader))

  pub initialiser_some : (a : ModuleReader) (r : Reader) (b : ModuleReader) (n : ℕ) (c : Option ℕ) → Reads number a.reader r n → n ≡ 1 → Finds HasConst const_in (λ k. (constant k t).read) (record a { reader = r }) b c
      → Finds HasHeld held_in (λ k. (option (constant k t)).read) a b (option_map (λ (x : ℕ). Some x) c)
  initialiser_some a r b n c front one h =
      starting (λ k. (option (constant k t)).read) a (record a { reader = r }) b (option_map (λ (x : ℕ). Some x) c) (goes_number a r n front)
      (put_so HasHeld held_in (λ (x : ℕ). Some x) (λ (x : m.Constant). Some x) (record a { reader = r }) b c (λ l q y has. All-cons (λ id. id < length q.constants) y [] has (All-nil (λ id. id < length q.constants))) (λ k q y. refl) h)
      (λ k e. held_some k a.reader.walk r.walk n one front.value (ap (λ (q : Reader). q.walk) front.reader))

  pub initialiser_stopped : (a : ModuleReader) (r s : Reader) (n : ℕ) → Reads number a.reader r n → 2 ≤ n → s ≡ record r { walk = stop 3 r.walk } → (is_stopped s.walk ≡ true → is_broken s.walk ≡ true)
      → Finds HasHeld held_in (λ k. (option (constant k t)).read) a (record a { reader = s }) None
  initialiser_stopped a r s n front le at stops =
      let w : s.walk ≡ stop 3 r.walk = ap (λ (q : Reader). q.walk) at in
      none_found HasHeld held_in (λ k. (option (constant k t)).read) a (record a { reader = s })
      (goes_two a (record a { reader = r }) (record a { reader = s }) (goes_number a r n front) (goes_stopped (record a { reader = r }) s 3 at))
      (stop_broken 3 r.walk s.walk w stops)
      (λ k h. w ∙ (ap (λ (q : Reader). stop 3 q.walk) front.reader ∙ ap (λ (x : Option m.Constant × Walk). x.1) (sym (held_other k (next a.reader.walk).1 n le) ∙ ap (λ i. option_by (constant k t) i (next a.reader.walk).1) front.value)))
