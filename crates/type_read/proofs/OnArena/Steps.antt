-- One reading behind another: what stays of a module in the making.
use Rattle.std.proofs.Common.{◌≡◌, ◌<◌, ◌+◌, ℕ, false, List, [], Option, Some, None, length, get_or, take, refl, sym, ap, subst, ◌∙◌}
use Rattle.type_table.specs.Types.{Types, trees, structs}
use Rattle.module_arena.specs.declared.constant.Const.{Const}
use Rattle.module_arena.specs.declared.entry.GlobalId.{GlobalId}
use Rattle.module_arena.specs.declared.entry.GlobalId.TheVariants as global
use Rattle.module_arena.specs.Changes.{constant_in}
use Rattle.module_arena.specs.Lists.{Lists}
use Rattle.module_arena.specs.Module as m
use Rattle.record_table.specs.Fields.{Numbering}
use Rattle.record_table.specs.Walk.{Walk}
use Rattle.record_read.specs.Reader.{Reader, IsBroken, is_broken}
use Rattle.type_read.specs.declared.arena.module_reader.ModuleReader.{ModuleReader}
use Rattle.type_read.specs.Arena.Growing.{Growing, IsConstant}
use Rattle.type_read.specs.Arena.Numbered.{Numbers, IsDeclared, IsGlobal, global_of}
use Rattle.type_read.specs.Arena.Kept.{Goes, Keeps, IsRead, IsKnownType, HasConstant, KeepsConstant}
use Rattle.type_read.proofs.OnArena.Kept.{grows_self, grows_two, same_table}

-- nothing happened
pub goes_self : (m : ModuleReader) → Goes m m
goes_self m = record { grows = grows_self m.growing; rest = refl; lasts = λ h. h }

-- operands were taken, and nothing else changed
pub goes_reader : (old new : ModuleReader) (r : Reader) → new ≡ record old { reader = r } → r ≡ record old.reader { walk = r.walk } → (IsBroken old.reader.walk → IsBroken r.walk) → Goes old new
goes_reader old new r is stays lasts =
    subst (λ (x : ModuleReader). Goes old x) (sym is)
    (record { grows = grows_self old.growing; rest = ap (λ (q : Reader). record old { reader = q }) stays; lasts = lasts })

pub goes_two : (a b c : ModuleReader) → Goes a b → Goes b c → Goes a c
goes_two a b c g h = record {
  grows = grows_two a.growing b.growing c.growing g.grows h.grows;
  rest = h.rest ∙ ap (λ (x : ModuleReader). record x { growing = c.growing; reader = record x.reader { walk = c.reader.walk } }) g.rest;
  lasts = λ broken. h.lasts (g.lasts broken);
}

-- a type that is known stays so
pub still_known : (a b : ModuleReader) (ty : Option ℕ) → Goes a b → IsKnownType a ty → IsKnownType b ty
still_known a b None g h = g.lasts h
still_known a b (Some id) g h = subst (λ (t : Types). id < length t.types) (sym (same_table a.growing b.growing g.grows)) h

-- indices stand for the same
pub still_numbers : (a b : ModuleReader) (k : Numbering) → Goes a b → Numbers a k → Numbers b k
still_numbers a b k g h =
    let table = sym (same_table a.growing b.growing g.grows) in
    let listed : a.growing.types ≡ b.growing.types = sym (ap (λ (x : Growing). x.types) g.grows.rest) in
    let globals = sym (ap (λ (x : ModuleReader). x.globals) g.rest) in
    let locals = sym (ap (λ (x : ModuleReader). x.locals) g.rest) in
    record {
      types = h.types ∙ (λ j. take (listed j) (trees (table j)));
      structs_are = h.structs_are ∙ ap structs table;
      targets = h.targets ∙ ap (λ n. take (n.variables + n.functions) k.globals) globals;
      globals = h.globals ∙ ap (λ n. n.variables + n.functions + n.aliases) globals;
      values = h.values ∙ ap (λ n. n.values) locals;
      blocks = h.blocks ∙ ap (λ n. n.blocks) locals;
    }

-- an entry does not depend on constants
still_global : (a : Lists) (cs : List Const) (id : GlobalId) (name : m.Bytes) → IsGlobal a id name → IsGlobal (record a { constants = cs }) id name
still_global a cs (global.Variable id) name h = record { known = h.known; named = h.named }
still_global a cs (global.Function id) name h = record { known = h.known; named = h.named }
still_global a cs (global.Alias id) name h = record { known = h.known; named = h.named }

-- entries that are declared stay so
pub still_declared : (a b : ModuleReader) (k : Numbering) → Goes a b → IsDeclared a k → IsDeclared b k
still_declared a b k g h = λ index lt.
    let globals = sym (ap (λ (x : ModuleReader). x.globals) g.rest) in
    let name = get_or k.globals index [] in
    subst (λ (l : Lists). IsGlobal l (global_of b.globals index) name) (sym (ap (λ (x : Growing). x.arena) g.grows.rest))
    (still_global a.growing.arena b.growing.arena.constants (global_of b.globals index) name
    (subst (λ n. IsGlobal a.growing.arena (global_of n index) name) globals (h index lt)))

-- ---- a constant that is kept behind a reading

pub kept_keeps : (old mid new : ModuleReader) (c : Const) (answer : Option ℕ) → Goes old mid → KeepsConstant mid c new answer → Keeps HasConstant old new answer
kept_keeps old mid new c None g h = record {
  goes = subst (λ (x : ModuleReader). Goes old x) (sym h.1) g;
  there = ap (λ (x : ModuleReader). is_broken x.reader.walk) h.1 ∙ h.0;
}
kept_keeps old mid new c (Some id) g h = record {
  goes = goes_two old mid new g (record {
    grows = h.adds.grows;
    rest = h.rest ∙ (λ j. record mid { growing = new.growing; reader = record mid.reader { walk = ap (λ (x : ModuleReader). x.reader.walk) (sym h.rest) j } });
    lasts = λ broken. ap (λ (x : ModuleReader). is_broken x.reader.walk) h.rest ∙ broken;
  });
  there = h.adds.is.known;
}

-- and is the value that was read
pub kept_read : (k : Numbering) (old mid new : ModuleReader) (c : Const) (answer : Option ℕ) (value : m.Constant) (walk : Walk) → mid.reader.walk ≡ walk → KeepsConstant mid c new answer
    → (is_broken mid.reader.walk ≡ false → IsDeclared old k → constant_in mid.growing.arena c ≡ value) → IsRead k IsConstant (value, walk) old new answer
kept_read k old mid new c None value walk at h means = record {
  walk = ap (λ (x : ModuleReader). x.reader.walk) h.1 ∙ at;
  kept = λ declared. ap (λ (x : ModuleReader). is_broken x.reader.walk) h.1 ∙ h.0;
}
kept_read k old mid new c (Some id) value walk at h means = record {
  walk = ap (λ (x : ModuleReader). x.reader.walk) h.rest ∙ at;
  kept = λ declared. record { known = h.adds.is.known; constant = h.adds.is.constant ∙ means h.unbroken declared };
}

-- nothing is kept, since a rule is broken
pub none_keeps : (old new : ModuleReader) → Goes old new → IsBroken new.reader.walk → Keeps HasConstant old new None
none_keeps old new g broken = record { goes = g; there = broken }

pub none_read : (k : Numbering) (old new : ModuleReader) (value : m.Constant) (walk : Walk) → new.reader.walk ≡ walk → IsBroken new.reader.walk → IsRead k IsConstant (value, walk) old new None
none_read k old new value walk at broken = record { walk = at; kept = λ declared. broken }
