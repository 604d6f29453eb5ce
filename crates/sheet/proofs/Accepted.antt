-- What the answer and the table of an accepted deck say.
use Rattle.std.proofs.Common.{◌≡◌, ℕ, ◌≤◌, List, ◌++◌, length, take, drop, Ok, Err, Result, sym, refl, ap, ◌∙◌, arith}
use Rattle.std.proofs.lemmas.List.{take_at, length-append}
use Rattle.network.specs.declared.branch.TableRow.{TableRow}
use Rattle.network.specs.Questions.{list_asked}
use Rattle.network.specs.Meaning.{RatedNet}
use Rattle.refusals.specs.declared.deck_fault.DeckRefusal.{DeckRefusal}
use Rattle.deck.specs.declared.reader.Deck.{Deck}
use Rattle.deck.specs.Decks.{Entry, read_bytes, deck_read, deck_of, table_after, branches_in}
use Rattle.deck.specs.Cards.{cards}
use Rattle.deck.specs.Doorways.{doors_in}
use Rattle.deck.proofs.Doorways.{doors-agree}
use Rattle.deck.proofs.Accepted.{accepted-is-taken}
use Rattle.sheet.specs.Reading.{Tells}
use Rattle.sheet.specs.Descriptions.{network_text, door_lines, described, description}
use Rattle.sheet.specs.Sheets.{door_texts, studied, sheet_text}

pub record Read (bytes : List ℕ) (deck : Deck) (table : List TableRow) : Type 0 where
  pub entries : List Entry
  pub said : read_bytes 64 bytes ≡ Ok entries
  pub answer : deck ≡ deck_of entries
  pub rows : take deck.branches table ≡ branches_in entries
  pub within : deck.branches ≤ length table
  pub taken : list_asked deck.nodes (take deck.branches table) ≡ Ok tt

read_by : (bytes : List ℕ) (deck : Deck) (before table : List TableRow) (r : Result (List Entry) DeckRefusal) → read_bytes 64 bytes ≡ r → Ok deck ≡ deck_read r → table ≡ table_after r before → Read bytes deck table
read_by bytes deck before table (Ok es) e a t =
    let is : deck ≡ deck_of es = cc in
    let count : deck.branches ≡ length (branches_in es) = ap (λ d. d.branches) is in
    let first : take deck.branches table ≡ branches_in es = ap (take deck.branches) t ∙ take_at (branches_in es) (drop (length (branches_in es)) before) deck.branches (sym count) in
    let long = ap length t ∙ length-append (branches_in es) (drop (length (branches_in es)) before) in
    record {
      entries = es;
      said = e;
      answer = is;
      rows = first;
      within = omega arith;
      taken = ap (λ rows. list_asked deck.nodes rows) first ∙ ap (λ d. list_asked d.nodes (branches_in es)) is ∙ accepted-is-taken bytes 64 es e;
    }
read_by bytes deck before table (Err f) e a t = cc

pub read : (bytes : List ℕ) (places : ℕ) (deck : Deck) (before table : List TableRow) → places ≡ 64 → Ok deck ≡ deck_read (read_bytes places bytes) → table ≡ table_after (read_bytes places bytes) before → Read bytes deck table
read bytes places deck before table n a t =
    read_by bytes deck before table (read_bytes 64 bytes) refl (a ∙ ap (λ p. deck_read (read_bytes p bytes)) n) (t ∙ ap (λ p. table_after (read_bytes p bytes) before) n)

-- what is written of an accepted deck is its description
pub accepted-text : (bytes : List ℕ) (net : RatedNet) (head : ℕ) → Tells bytes net head
    → network_text net head ++ door_lines (doors_in (cards bytes)) ≡ description bytes
accepted-text bytes net head t =
    (λ i. network_text (t.net_is i) (t.head_is i) ++ door_lines (doors-agree bytes 64 t.entries t.accepted i)) ∙ sym (ap described t.accepted)

-- what is written of its doors is its sheet
pub accepted-sheet : (bytes : List ℕ) (net : RatedNet) (head : ℕ) → Tells bytes net head
    → door_texts net head (doors_in (cards bytes)) ≡ sheet_text bytes
accepted-sheet bytes net head t =
    (λ i. door_texts (t.net_is i) (t.head_is i) (doors-agree bytes 64 t.entries t.accepted i)) ∙ sym (ap studied t.accepted)
