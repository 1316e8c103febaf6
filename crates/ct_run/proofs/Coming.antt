-- Events that come one after the other, with their lines.
use Rattle.std.proofs.Common.{◌≡◌, ℕ, suc, ◌+◌, ◌<◌, ◌≤◌, nat_lt, Bool, true, false, List, [], ◌∷◌, ◌++◌, Result, length, drop, get_or, refl, sym, ap, ◌∙◌, subst, arith}
use Rattle.std.specs.List.{All, flat_map}
use Rattle.std.proofs.Math.Seq.{drop-cons}
use Rattle.std.proofs.lemmas.Bool.{lt-ltb, and_from}
use Rattle.std.proofs.lemmas.List.{append-nil, drop_all}
use Rattle.std.proofs.lemmas.Grind.{flat_map-append}
use Rattle.std.proofs.lemmas.Result.{MatchResult-weaker}
use Rattle.ct_entry.specs.declared.acts.Happened.{Happened}
use Rattle.def_profile.specs.declared.limits.TheConstants.{MOST_STEPS}
use Rattle.def_port.specs.Bytes.{SinkView}
use Rattle.def_port.specs.Writes.{WriteAnswers, WriteFails}
use Rattle.def_machine.specs.State.{State}
use Rattle.def_machine.specs.Platform.{Platform, MachineRow}
use Rattle.def_step.specs.declared.Event.{Event}
use Rattle.def_step.specs.Events.{happens, run, happenings_of, is_lawful, AreLawful}
use Rattle.def_script.specs.declared.Given.{Given}
use Rattle.def_events.specs.Kinds.{Kinds}
use Rattle.law_routines.proofs.Appended.{run_append, told_append}
use Rattle.law_routines.proofs.Counted.{event_kinds}
use Rattle.law_routines.proofs.Devices.{event_keeps}
use Rattle.def_program.specs.Runs.{input_of}
use Rattle.ct_port.proofs.Pieces.{nothing}
use Rattle.ct_run.specs.Rounds.{after, before_of, line_if, lines_of, ticks_if, Came, Comes}
use Rattle.ct_run.proofs.Pieces.{after_piece, piece_fails, Remainder}

-- ---- one event

pub one_comes : {A B : Type 0} (with_lines : Bool) (m n : MachineRow) (k : ℕ) (e : Event) (h : Happened) (before now : SinkView) (result : Result A B) → n.state ≡ (happens m.board m.state e).0 → h ≡ (happens m.board m.state e).1 → n.board ≡ m.board
    → WriteAnswers before now (line_if with_lines k h) result → Comes with_lines m n k (e ∷ []) before now result
unfolding run happenings_of
one_comes with_lines m n k e h before now result state happened board answers =
    MatchResult-weaker result (subst (λ t. WriteAnswers before now t result) (ap (line_if with_lines k) happened ∙ sym (append-nil (line_if with_lines k (happens m.board m.state e).1))) answers)
    (λ _ w. record { left = rw (board, state) refl; written = w })
    (λ _ w. w)

-- ---- some events of several

module _ (with_lines : Bool) (m : MachineRow) (k : ℕ) (es fs : List Event) (End : MachineRow → SinkView → Type 0) {Part : SinkView → Type 0} {mid : SinkView} (left : Remainder (lines_of with_lines m k (es ++ fs)) mid (End (after m (es ++ fs))) Part) where
  in_parts : Remainder (lines_of with_lines m k es ++ lines_of with_lines (after m es) k fs) mid (End (after (after m es) fs)) Part
  in_parts =
      subst (λ s. Remainder (lines_of with_lines m k es ++ lines_of with_lines (after m es) k fs) mid (End (record { board = m.board; state = s })) Part) (run_append m.board m.state es fs)
      (subst (λ t. Remainder t mid (End (after m (es ++ fs))) Part)
      (ap (flat_map (line_if with_lines k)) (told_append m.board m.state es fs)
      ∙ flat_map-append (line_if with_lines k) (happenings_of m.board m.state es) (happenings_of m.board (run m.board m.state es) fs))
      left)

  pub some_come : {now : SinkView} (n : MachineRow) → Came with_lines m n k es mid now → Remainder (lines_of with_lines n k fs) now (End (after n fs)) Part
  some_come {now} n c = subst (λ z. Remainder (lines_of with_lines z k fs) now (End (after z fs)) Part) (sym c.left) (after_piece _ _ in_parts c.written)

  pub some_fail : {now : SinkView} → WriteFails mid now (lines_of with_lines m k es) → Part now
  some_fail w = piece_fails _ _ in_parts w

-- ---- what comes before a step

-- these are left of it, and may come
pub record Coming (with_lines : Bool) (first m : MachineRow) (k : ℕ) (all left : List Event) (before now : SinkView) : Type 0 where
  pub lawful : AreLawful m.board m.state left
  pub lines : Remainder (lines_of with_lines m k left) now (Came with_lines first (after m left) k all before) (λ new. WriteFails before new (lines_of with_lines first k all))

module _ (with_lines : Bool) (first : MachineRow) (k : ℕ) (all : List Event) where
  pub starts : (before : SinkView) → AreLawful first.board first.state all → Coming with_lines first first k all all before before
  starts before lawful = record {
    lawful = lawful;
    lines = record { whole = λ new w. record { left = refl; written = w }; part = λ new w. w };
  }

  pub may_come : (m : MachineRow) (e : Event) (es : List Event) {before now : SinkView} → Coming with_lines first m k all (e ∷ es) before now → is_lawful m.state e ≡ true
  unfolding AreLawful
  may_come m e es c = c.lawful.0

  pub comes : (m n : MachineRow) (e : Event) (es : List Event) {before mid now : SinkView} → Coming with_lines first m k all (e ∷ es) before mid → Came with_lines m n k (e ∷ []) mid now → Coming with_lines first n k all es before now
  unfolding AreLawful run
  comes m n e es {before} c came = record {
    lawful = subst (λ (z : MachineRow). AreLawful z.board z.state es) (sym came.left) c.lawful.1;
    lines = some_come with_lines m k (e ∷ []) es (λ z. Came with_lines first z k all before) c.lines n came;
  }

  pub fails : (m : MachineRow) (e : Event) (es : List Event) {before mid now : SinkView} → Coming with_lines first m k all (e ∷ es) before mid → WriteFails mid now (lines_of with_lines m k (e ∷ [])) → WriteFails before now (lines_of with_lines first k all)
  fails m e es {before} c w = some_fail with_lines m k (e ∷ []) es (λ z. Came with_lines first z k all before) c.lines w

  pub all_came : (m : MachineRow) {before now : SinkView} → Coming with_lines first m k all [] before now → Came with_lines first m k all before now
  unfolding run happenings_of
  all_came m {before} {now} c = c.lines.whole now (nothing now)

  -- the last of them
  pub last_comes : {A B : Type 0} (m n : MachineRow) (e : Event) {before mid : SinkView} (now : SinkView) (result : Result A B) → Coming with_lines first m k all (e ∷ []) before mid → Comes with_lines m n k (e ∷ []) mid now result → Comes with_lines first n k all before now result
  last_comes m n e now result c came = MatchResult-weaker result came (λ _ w. all_came n (comes m n e [] c w)) (λ _ w. fails m e [] c w)

  -- the next byte
  pub next_byte : (m : MachineRow) (gs : List Given) (due : Bool) (i : ℕ) (d : Given) {before now : SinkView} → i < length gs
      → Coming with_lines first m k all (before_of (drop i gs) due) before now → Coming with_lines first m k all (input_of (get_or gs i d) ∷ before_of (drop (i + 1) gs) due) before now
  next_byte m gs due i d {before} {now} low c =
      let on : suc i ≡ i + 1 = omega arith in
      subst (λ n. Coming with_lines first m k all (input_of (get_or gs i d) ∷ before_of (drop n gs) due) before now) on
      (subst (λ left. Coming with_lines first m k all (before_of left due) before now) (drop-cons gs i d low) c)

  -- past the last of them
  pub no_byte : (m : MachineRow) (gs : List Given) (due : Bool) (i : ℕ) {es : List Event} {before now : SinkView} → length gs ≤ i → ticks_if due ≡ es
      → Coming with_lines first m k all (before_of (drop i gs) due) before now → Coming with_lines first m k all es before now
  no_byte m gs due i {es} {before} {now} past is c = subst (λ left. Coming with_lines first m k all left before now) (ap (λ left. before_of left due) (drop_all i gs past) ∙ is) c

-- bytes for which there is room, each to a device, and a tick for which there is
pub before_lawful : (b : Platform) (s : State) (gs : List Given) (due : Bool) → s.counts.inputs + length gs ≤ MOST_STEPS → All (λ (g : Given). g.device < length s.devices) gs → s.counts.ticks < MOST_STEPS
    → AreLawful b s (before_of gs due)
unfolding AreLawful
before_lawful b s [] true room named ticks = (lt-ltb s.counts.ticks MOST_STEPS ticks, tt)
before_lawful b s [] false room named ticks = tt
before_lawful b s (g ∷ gs) due room named ticks =
    let next : State = (happens b s (input_of g)).0 in
    let more : next.counts.inputs ≡ s.counts.inputs + 1 = ap (λ (x : Kinds). x.inputs) (event_kinds b s (input_of g)) in
    let same : next.counts.ticks ≡ s.counts.ticks = ap (λ (x : Kinds). x.ticks) (event_kinds b s (input_of g)) in
    let left : All (λ (x : Given). x.device < length s.devices) gs = λ j d inside. named (suc j) d (omega (arith, inside)) in (
      and_from (nat_lt s.counts.inputs MOST_STEPS) (nat_lt g.device (length s.devices)) (lt-ltb s.counts.inputs MOST_STEPS (omega (arith, room))) (lt-ltb g.device (length s.devices) (named 0 g (omega arith))),
      before_lawful b next gs due (omega (arith, more, room)) (subst (λ n. All (λ (x : Given). x.device < n) gs) (sym (event_keeps b s (input_of g))) left) (omega (arith, same, ticks)),
    )
