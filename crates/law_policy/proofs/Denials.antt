-- What denies a policy: there is one text, and it is empty exactly where the policy holds.
use Rattle.std.proofs.Common.{◌≡◌, ℕ, zero, suc, ◌+◌, ◌<◌, ◌^◌, ◌++◌, List, [], ◌∷◌, inl, inr, refl, ap, sym, ◌∙◌, subst, arith, length, length-append, map, codes, decimal}
use Rattle.std.specs.List.{AllByRecursion, flat_map}
use Rattle.std.proofs.lemmas.List.Concat.{flat_map-cons}
use Rattle.ct_entry.specs.declared.rows.Entry.{Entry}
use Rattle.ct_entry.specs.declared.rows.Owner.{Owner}
use Rattle.ct_entry.specs.Listed.{Listed}
use Rattle.def_boot.specs.Gates.{entries_of}
use Rattle.def_reach.specs.Reach.{Reached}
use Rattle.def_image.specs.Accepted.{IsFaultless}
use Rattle.def_image.specs.Parts.{PartsRow}
use Rattle.def_policy.specs.declared.Subject.{Subject}
use Rattle.def_policy.specs.declared.Subject.TheVariants as subject
use Rattle.def_policy.specs.Breaking.{PolicyHolds, KeepsApart, KeepsRule, breaking, breaking_from}
use Rattle.def_policy.specs.Denials.{AllDenied, Denies, Reaching, entry_line, entry_lines, denied_path_line}
use Rattle.def_policy.specs.Names.{name_of}
use Rattle.def_policy.specs.Rules.{spaced_words}
use Rattle.def_policy.specs.Rulings.{Ruling}
use Rattle.ct_entries.proofs.Few.{few_rows}
use Rattle.ct_entries.proofs.Standing.{stands}
use Rattle.ct_policy.specs.Kept.{IsUntrusted, KeepsUntrusted}
use Rattle.law_image.proofs.Sounds.{sound}
use Rattle.def_reach.specs.There.{LeadsOrNot}
use Rattle.law_paths.proofs.Once.{same_path}
use Rattle.law_paths.proofs.There.{there}
use Rattle.def_policy.specs.Denied.{HasDenials}

-- ---- no two texts

same_reaching : (p : PartsRow) (line : ℕ) (o : Owner) (b : ℕ) (x y : List ℕ) → Reaching p line o b x → Reaching p line o b y → x ≡ y
same_reaching p line o b x y (inl m) (inl n) = m.1 ∙ sym n.1
same_reaching p line o b x y (inl m) (inr n) = absurd (m.0 n.1.0)
same_reaching p line o b x y (inr m) (inl n) = absurd (n.0 m.1.0)
same_reaching p line o b x y (inr m) (inr n) = m.1.2 ∙ ap (denied_path_line p line) (same_path _ o b m.0 n.0 m.1.1 n.1.1) ∙ sym n.1.2

same_denies : (p : PartsRow) (line : ℕ) (r : Ruling) (s : Subject) (x y : List ℕ) → Denies p line r s x → Denies p line r s y → x ≡ y
same_denies p line r (subject.Only resource n) x y a b = a ∙ sym b
same_denies p line r subject.Disabled x y a b = a ∙ sym b
same_denies p line r (subject.Data n) x y a b = a ∙ sym b
same_denies p line r (subject.Total n) x y a b = a ∙ sym b
same_denies p line r (subject.Quota o n) x y a b = a ∙ sym b
same_denies p line r (subject.Apart o c) x y a b = same_reaching p line o c x y a b

pub same_denials : (p : PartsRow) (line : ℕ) (rulings : List Ruling) (x y : List ℕ) → AllDenied p line rulings x → AllDenied p line rulings y → x ≡ y
same_denials p line [] x y a b = a ∙ sym b
same_denials p line (r ∷ rs) x y a b =
    let first : a.first ≡ b.first = same_denies p line r r.subject a.first b.first a.is_first b.is_first in
    let rest : a.rest ≡ b.rest = same_denials p (line + 1) rs a.rest b.rest a.is_rest b.is_rest in
    a.text_is ∙ ap (λ t. t ++ a.rest) first ∙ ap (λ t. b.first ++ t) rest ∙ sym b.text_is

-- ---- a text

pub few : (p : PartsRow) → IsFaultless p → length (entries_of p).rows < 2 ^ 32
unfolding entries_of
few p f = few_rows p (stands p (sound p f))

record HasDenies (p : PartsRow) (line : ℕ) (r : Ruling) (s : Subject) : Type 0 where
  text : List ℕ
  is : Denies p line r s text

reaching_by : (p : PartsRow) (line : ℕ) (r : Ruling) (o : Owner) (b : ℕ) → LeadsOrNot (entries_of p) o b → HasDenies p line r (subject.Apart o b)
reaching_by p line r o b (inl l) = record { text = denied_path_line p line l.owners; is = inr (l.owners, (l.reached, l.path, refl)) }
reaching_by p line r o b (inr not) = record { text = []; is = inl (not, refl) }

has_denies : (p : PartsRow) → IsFaultless p → (line : ℕ) (r : Ruling) (s : Subject) → IsUntrusted s → HasDenies p line r s
has_denies p f line r (subject.Only resource n) u = record { text = entry_lines line (breaking (entries_of p) r); is = refl }
has_denies p f line r subject.Disabled u = record { text = entry_lines line (breaking (entries_of p) r); is = refl }
has_denies p f line r (subject.Data n) u = record { text = entry_lines line (breaking (entries_of p) r); is = refl }
has_denies p f line r (subject.Total n) u = record { text = entry_lines line (breaking (entries_of p) r); is = refl }
has_denies p f line r (subject.Quota o n) u = record { text = entry_lines line (breaking (entries_of p) r); is = refl }
has_denies p f line r (subject.Apart o b) u = reaching_by p line r o b (there (entries_of p) o b (few p f) u)

pub denials_there : (p : PartsRow) → IsFaultless p → (line : ℕ) (rulings : List Ruling) → AllByRecursion KeepsUntrusted rulings → HasDenials p line rulings
denials_there p f line [] are = record { text = []; is = refl }
denials_there p f line (r ∷ rs) are =
    let first = has_denies p f line r r.subject are.0 in
    let rest = denials_there p f (line + 1) rs are.1 in
    record {
      text = first.text ++ rest.text;
      is = record { first = first.text; rest = rest.text; is_first = first.is; is_rest = rest.is; text_is = refl };
    }

-- ---- where the text is empty

line_some : (line : ℕ) (words : List (List ℕ)) → 0 < length (codes "denied " ++ (decimal line ++ spaced_words words))
line_some line words = omega arith

no_lines : (line : ℕ) (entries : List ℕ) → entry_lines line entries ≡ [] → entries ≡ []
no_lines line [] is = refl
no_lines line (n ∷ ns) is =
    absurd (omega (arith, ap length (sym (flat_map-cons (entry_line line) n ns) ∙ is), length-append (entry_line line n) (flat_map (entry_line line) ns), line_some line (decimal n ∷ [])))

both_empty : (a b : List ℕ) → a ++ b ≡ [] → (a ≡ []) × (b ≡ [])
both_empty [] b is = (refl, is)
both_empty (c ∷ cs) b is = absurd (omega (arith, ap length is))

-- a rule that wants two apart is broken by no entry
apart_breaks_none : (e : Listed) (r : Ruling) (o : Owner) (b : ℕ) → r.subject ≡ subject.Apart o b → (number sum : ℕ) (rows : List Entry) → breaking_from e r number sum rows ≡ []
apart_breaks_none e r o b is number sum [] = refl
apart_breaks_none e r o b is number sum (x ∷ xs) = rw is (apart_breaks_none e r o b is (number + 1) _ xs)

module _ (p : PartsRow) (r : Ruling) where
  by_entries : KeepsApart (entries_of p) r.subject → (line : ℕ) (text : List ℕ) → text ≡ entry_lines line (breaking (entries_of p) r) → text ≡ [] → KeepsRule (entries_of p) r
  by_entries apart line text is none = record { entries = no_lines line (breaking (entries_of p) r) (sym is ∙ none); apart = apart }

  by_reach : (line : ℕ) (o : Owner) (b : ℕ) (text : List ℕ) → r.subject ≡ subject.Apart o b → Reaching p line o b text → text ≡ [] → KeepsRule (entries_of p) r
  unfolding breaking
  by_reach line o b text is (inl not) none = record {
    entries = apart_breaks_none (entries_of p) r o b is 1 0 (entries_of p).rows;
    apart = subst (λ s. KeepsApart (entries_of p) s) (sym is) not.0;
  }
  by_reach line o b text is (inr found) none =
      absurd (omega (arith, ap length (sym found.1.2 ∙ none), line_some line (codes "path" ∷ map (name_of p) found.0)))

  keeps_by : (line : ℕ) (s : Subject) (text : List ℕ) → r.subject ≡ s → Denies p line r s text → text ≡ [] → KeepsRule (entries_of p) r
  keeps_by line (subject.Only resource n) text is denies none = by_entries (rw is tt) line text denies none
  keeps_by line subject.Disabled text is denies none = by_entries (rw is tt) line text denies none
  keeps_by line (subject.Data n) text is denies none = by_entries (rw is tt) line text denies none
  keeps_by line (subject.Total n) text is denies none = by_entries (rw is tt) line text denies none
  keeps_by line (subject.Quota o n) text is denies none = by_entries (rw is tt) line text denies none
  keeps_by line (subject.Apart o b) text is denies none = by_reach line o b text is denies none

  no_entries : KeepsRule (entries_of p) r → (line : ℕ) (text : List ℕ) → text ≡ entry_lines line (breaking (entries_of p) r) → text ≡ []
  no_entries k line text is = is ∙ ap (entry_lines line) k.entries

  none_by : (line : ℕ) (s : Subject) (text : List ℕ) → r.subject ≡ s → KeepsRule (entries_of p) r → Denies p line r s text → text ≡ []
  none_by line (subject.Only resource n) text is k denies = no_entries k line text denies
  none_by line subject.Disabled text is k denies = no_entries k line text denies
  none_by line (subject.Data n) text is k denies = no_entries k line text denies
  none_by line (subject.Total n) text is k denies = no_entries k line text denies
  none_by line (subject.Quota o n) text is k denies = no_entries k line text denies
  none_by line (subject.Apart o b) text is k (inl not) = not.1
  none_by line (subject.Apart o b) text is k (inr found) =
      absurd (let apart : Reached (entries_of p) o b → ⊥ = subst (λ s. KeepsApart (entries_of p) s) is k.apart in apart found.1.0)

pub holds_where : (p : PartsRow) (line : ℕ) (rulings : List Ruling) (text : List ℕ) → AllDenied p line rulings text → text ≡ [] → PolicyHolds (entries_of p) rulings
holds_where p line [] text denied none k d inside = absurd (omega (arith, inside))
holds_where p line (r ∷ rs) text denied none zero d inside =
    keeps_by p r line r.subject denied.first refl denied.is_first (both_empty denied.first denied.rest (sym denied.text_is ∙ none)).0
holds_where p line (r ∷ rs) text denied none (suc k) d inside =
    holds_where p (line + 1) rs denied.rest denied.is_rest (both_empty denied.first denied.rest (sym denied.text_is ∙ none)).1 k d (omega (arith, inside))

pub none_where : (p : PartsRow) (line : ℕ) (rulings : List Ruling) (text : List ℕ) → AllDenied p line rulings text → PolicyHolds (entries_of p) rulings → text ≡ []
none_where p line [] text denied holds = denied
none_where p line (r ∷ rs) text denied holds =
    denied.text_is
    ∙ ap (λ t. t ++ denied.rest) (none_by p r line r.subject denied.first refl (holds 0 r (omega arith)) denied.is_first)
    ∙ none_where p (line + 1) rs denied.rest denied.is_rest (λ k d inside. holds (suc k) d (omega (arith, inside)))
