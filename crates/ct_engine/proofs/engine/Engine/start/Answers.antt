use Rattle.std.proofs.Common.{◌/◌, ◌∙◌, Bool, false, List, length, None, refl, ap}
use Rattle.std.proofs.lemmas.List.{length-replicate}
use Rattle.ct_engine.specs.Seen.{stands}
use Rattle.ct_engine.specs.declared.rows.Rows.{Rows}
use Rattle.ct_engine.proofs.Laying.{Lays, none_stood, laid_holds, laid_seen}
use Rattle.ct_engine.proofs.engine.Engine.start.Given as given
use Rattle.ct_engine.proofs.engine.Engine.start.Goals as goal

abbrev rows_of : (g : given.Over) (c : goal.After-idle g) → Rows
rows_of g c = record {
  region = c.args.region;
  list = c.in_ok-list.list;
  running = None;
  standing = c.in_ok-standing.standing;
  loose = false;
  heap = c.lay.new.self;
  front = c.idle.result;
  tokens = c.in_ok-tokens.tokens;
}

-- what is known once the heap is laid
lays : (g : given.Over) (c : goal.After-idle g)
    → Lays (g.M.Memory.granules c.args.memory) (g.M.Memory.granules c.begin_all.new.mem) (g.M.Memory.granules c.lay.new.mem) (rows_of g c) c.args.fresh.now c.args.heap
lays g c = record {
  may = c.requires;
  begun = c.in_ok-list.ensures;
  none = refl;
  sizes = ap (λ (xs : List Bool). length xs) c.in_ok-standing.ensures ∙ length-replicate c.len.result false ∙ c.len.ensures ∙ c.in_ok-list.list.ok.0;
  empty = λ u. ap (λ (xs : List Bool). stands xs u) c.in_ok-standing.ensures ∙ none_stood c.len.result u;
  idle = c.idle.ensures;
  laid = c.lay.ensures.laid;
  objects = c.lay.ensures.objects;
  stays = c.lay.ensures.stays;
  same = c.lay.ensures.same;
  next = c.lay.ensures.next;
  no_row = c.in_ok-tokens.ensures.rows;
  room = c.in_ok-tokens.ensures.room ∙ ap (λ n. n / 16) c.length.ensures;
}

pub invariant_of-result : goal.invariant_of-result
invariant_of-result g c = laid_holds _ _ (g.M.Memory.granules c.lay.new.mem) (rows_of g c) c.args.fresh.now c.args.heap (lays g c)

pub returns : goal.returns
returns g c = laid_seen _ _ (g.M.Memory.granules c.lay.new.mem) (rows_of g c) c.args.fresh.now c.args.heap (lays g c)
