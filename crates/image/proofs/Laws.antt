-- What the crates above know of images: they cite these laws and unfold no definition. Assumes nothing.
use Rattle.std.proofs.Common.{Some, None, Ok, Err, Option}
use Prim.Native.Nat.{ℕ, ◌^◌, ◌≤◌, ◌<◌}
use mathlib.Core.Path.{◌≡◌, refl, sym, subst, ◌∙◌}
use mathlib.Core.Logic.{◌↔◌}
use native.Mathlib.Omega.{arith}
use lib.ListN.{length}
use Rattle.std.specs.Result.{result_and}
use Rattle.section.specs.Check.{Answered, Check, fine, and_then}
use Rattle.section.specs.Rule.{table_most, index_rule, table_rule}
use Rattle.section.specs.Place.{offset_of}
use Rattle.section.specs.declared.Addr.{Addr}
use Rattle.section.specs.declared.Off.{Off}
use Rattle.section.specs.declared.Refusal.{Refusal}
use Rattle.section.proofs.Checks.{and_exact, named}
use Rattle.section.proofs.Rules.{section_exact, index_exact, rule_fault, index_fault}
use Rattle.entry.specs.Index.{function_at, content_at}
use Rattle.entry.specs.Table.{table_entry_of}
use Rattle.entry.specs.Parts.{chosen}
use Rattle.entry.specs.Read.{Inside, Contents, IndexGives, Known, TableRefusal, TableGives}
use Rattle.entry.specs.declared.Held.{Held}
use Rattle.entry.specs.declared.Span.{Span}
use Rattle.entry.specs.declared.Personality.{Personality}
use Rattle.entry.specs.declared.Content.{Content}
use Rattle.entry.specs.declared.TableEntry.{TableEntry}
use Rattle.entry.specs.declared.IndexEntry.{IndexEntry}
use Rattle.entry.proofs.Laws.{index_gives, table_gives, index_led, index_refused, words_length, language_short}
use Rattle.image.specs.Image.{Image, count_of, sections_of, Sections, by_personality, from_table, from_place, from_content, entry_at, led_in, led_by, language_of}
use Rattle.image.specs.Read.{Readable, EntryRefusal, Leads, Names}

-- ---- the section rules
pub sections_exact : (i : Image) → (sections_of i ≡ fine) ↔ Sections i
unfolding sections_of
sections_exact i =
    named (and_exact _ _ (index_exact (length i.index) i.index_at) (section_exact table_most (length i.table) i.table_at))
    (λ p. record { index = p.0; table = p.1 }) (λ s. (s.index, s.table))

-- their only fault is 1
pub sections_fault : (i : Image) (r : Refusal) → sections_of i ≡ Err r → r ≡ Refusal.Section
unfolding sections_of
sections_fault i r e = go (index_rule (length i.index) i.index_at) refl e
  where
    go : (x : Check) → index_rule (length i.index) i.index_at ≡ x → result_and x (table_rule (length i.table) i.table_at) ≡ Err r → r ≡ Refusal.Section
    go fine p q = rule_fault table_most (length i.table) i.table_at r q
    go (Err y) p q = let k : y ≡ r = cc in sym k ∙ index_fault (length i.index) i.index_at y p

-- ---- one law for each way to an entry
module _ (i : Image) (k : ℕ) where
  pub entry_faulty : (r : Refusal) → sections_of i ≡ Err r → entry_at i k ≡ Err r
  unfolding entry_at
  entry_faulty r e = rw e

  pub led_faulty : (f : Addr) (r : Refusal) → sections_of i ≡ Err r → led_by i k f ≡ Err r
  unfolding led_by
  led_faulty f r e = rw e

  module _ (s : sections_of i ≡ fine) where
    pub led_fine : (f : Addr) → led_by i k f ≡ led_in i k f
    unfolding led_by
    led_fine f = rw s

    pub entry_corrupt : (r : Refusal) → function_at i.index i.index_at k ≡ Err r → entry_at i k ≡ Err r
    unfolding entry_at
    entry_corrupt r e = rw (s, index_refused i.index i.index_at k r e)

    pub entry_led : (f : Addr) → function_at i.index i.index_at k ≡ Ok f → entry_at i k ≡ led_in i k f
    unfolding entry_at led_in
    entry_led f e = rw (s, index_led i.index i.index_at k f e) (go (content_at i.index i.index_at k))
      where
        go : (x : Answered Content)
            → and_then {A = IndexEntry} (and_then x (λ c. Ok (record { function = f; content = c }))) (λ e. from_content e.function i.table i.table_at e.content) ≡ and_then x (from_content f i.table i.table_at)
        go (Ok c) = refl
        go (Err r) = refl

  -- where the function is known, it need not be read again
  pub entry_is_led : (f : Addr) → function_at i.index i.index_at k ≡ Ok f → entry_at i k ≡ led_by i k f
  entry_is_led f e = go (sections_of i) refl
    where
      go : (x : Check) → sections_of i ≡ x → entry_at i k ≡ led_by i k f
      go fine s = entry_led s f e ∙ sym (led_fine s f)
      go (Err r) s = entry_faulty r s ∙ sym (led_faulty f r s)

-- ---- what an entry leads to names its function
names_entry : (f : Addr) (e : TableEntry) (p : Personality) → Names f (Ok (by_personality f e p))
names_entry f e (Personality.Compact n) = Names.compact
names_entry f e (Personality.Generic a) = Names.generic

names_table : (f : Addr) (x : Answered TableEntry) → Names f (from_table f x)
names_table f (Ok e) = names_entry f e e.personality
names_table f (Err r) = Names.refused

names_place : (f : Addr) (i : Image) (p : Option Off) → Names f (from_place f i.table i.table_at p)
names_place f i (Some o) = names_table f (table_entry_of i.table i.table_at o)
names_place f i None = Names.refused

names_content : (f : Addr) (i : Image) (c : Content) → Names f (from_content f i.table i.table_at c)
names_content f i Content.CannotUnwind = Names.cannot
names_content f i (Content.Compact p s) = Names.compact
names_content f i (Content.Table a) = names_place f i (offset_of i.table_at (length i.table) a)

pub led_names : (i : Image) (k : ℕ) (f : Addr) → Names f (led_in i k f)
unfolding led_in
led_names i k f = go (content_at i.index i.index_at k)
  where
    go : (x : Answered Content) → Names f (and_then x (from_content f i.table i.table_at))
    go (Ok c) = names_content f i c
    go (Err r) = Names.refused

-- ---- no entry of an image whose sections pass gives 1
module _ (i : Image) (s : Sections i) where
  -- words that lie in the section that holds them can be read
  readable : (n : Span) → Inside (length (chosen n.held i.index i.table)) n → Readable i n
  readable n h =
      let e = words_length (chosen n.held i.index i.table) n h in
      record { whole = e; some = h.some; short = omega (arith, h.short); skips = h.skips; skips_few = h.skips_few }

  pub language_most : (o : Off) → length (language_of i o) ≤ table_most
  language_most o = omega (arith, language_short i.table o, s.table.short)

  in_held : (h : Held) (n : Span) → n.held ≡ h → Inside (length (chosen h i.index i.table)) n → Readable i n
  in_held h n e x = readable n (subst (λ (g : Held). Inside (length (chosen g i.index i.table)) n) (sym e) x)

  from_table_lem : (f : Addr) → f.0 < 2 ^ 32 → (x : Answered TableEntry) → TableGives (length i.table) x → Leads i (from_table f x)
  from_table_lem f b x (TableGives.entry {e = e} y) = go e.personality y.known
    where
      go : (p : Personality) → Known p → Leads i (Ok (by_personality f e p))
      go p (Known.compact {n = n} h) = Leads.compact {n = n} b (omega arith) (in_held Held.Table e.span y.held y.inside)
      go p (Known.generic h) = Leads.generic {o = e.language} b h (in_held Held.Table e.span y.held y.inside) (omega (arith, y.language, y.inside.within)) (language_most e.language)
  from_table_lem f b x (TableGives.refused TableRefusal.place) = Leads.refused EntryRefusal.place
  from_table_lem f b x (TableGives.refused TableRefusal.truncated) = Leads.refused EntryRefusal.truncated
  from_table_lem f b x (TableGives.refused TableRefusal.selector) = Leads.refused EntryRefusal.selector

  from_place_lem : (f : Addr) → f.0 < 2 ^ 32 → (p : Option Off) → Leads i (from_place f i.table i.table_at p)
  from_place_lem f b (Some o) = from_table_lem f b _ (table_gives i.table i.table_at s.table o)
  from_place_lem f b None = Leads.refused EntryRefusal.place

  from_content_lem : (f : Addr) → f.0 < 2 ^ 32 → (c : Content) → Contents (length i.index) c → Leads i (from_content f i.table i.table_at c)
  from_content_lem f b c Contents.cannot = Leads.cannot b
  from_content_lem f b c (Contents.compact {s = n} h e x) = Leads.compact b h (in_held Held.Index n e x)
  from_content_lem f b c (Contents.table {a = a} h) = from_place_lem f b (offset_of i.table_at (length i.table) a)

  pub entry_leads : (k : ℕ) → k < count_of i → Leads i (entry_at i k)
  unfolding entry_at
  entry_leads k h = rw ((sections_exact i).1 s) (go _ (index_gives i.index i.index_at k s.index))
    where
      go : (x : Answered IndexEntry) → IndexGives i.index k x → Leads i (and_then x (λ e. from_content e.function i.table i.table_at e.content))
      go x (IndexGives.entry {e = e} g b c) = from_content_lem e.function b e.content c
      go x (IndexGives.corrupt g) = Leads.refused EntryRefusal.corrupt
      go x (IndexGives.truncated g) = absurd (omega arith)
