-- `search_labels::reach::relax` meets its contract: each way through the branches is a case of `relax_at` and
-- of `notes_at`, and of what becomes of the frontier.
use native.Mathlib.Nat.{le_of_lt}
use Rattle.search_labels.specs.Ready.{ready_reads}
use Rattle.search_frontier.specs.Push.{front_new, pushes}
use Rattle.search_frontier.specs.Relax.{relax_less, relax_same, relax_late, relax_not}
use Rattle.search_labels.specs.Notes.{note_less, note_fewer, note_same, note_late, note_not}
use Rattle.search_labels.specs.Walk.{arc_place, node_place, note_fits, tick_early, end_small, notes_before}
use borrow.Author.{Tests.eq-eqb, Tests.ne_eqb, Rules.rules}
use Rattle.search_labels.proofs.reach.relax.Goals as goal

pub returns-then-mask-arc-ne1 : goal.returns-then-mask-arc-ne1
returns-then-mask-arc-ne1 c = record {
  labels = search (relax_not, ne_eqb);
  notes = search (note_not, ne_eqb);
  grown = search pushes;
  front = search rules;
}

pub bounds-labels-v : goal.bounds-labels-v
bounds-labels-v c = search ready_reads

pub returns-then-old-tick : goal.returns-then-old-tick
returns-then-old-tick c = record {
  labels = search (relax_late, eq-eqb, ready_reads);
  notes = search (notes_before, eq-eqb, ready_reads);
  grown = search pushes;
  front = search rules;
}

pub ends_at-end-requires-clause-arc_lt_arcs : goal.ends_at-end-requires-clause-arc_lt_arcs
ends_at-end-requires-clause-arc_lt_arcs c = (search rules, search tick_early)

pub ends_at-end-requires-clause-arc_value : goal.ends_at-end-requires-clause-arc_value
ends_at-end-requires-clause-arc_value c = (search ready_reads, search ready_reads)

pub returns-then-old-end : goal.returns-then-old-end
returns-then-old-end c = record {
  labels = search (relax_same, le_of_lt, eq-eqb, ready_reads);
  notes = search (note_late, eq-eqb, ready_reads);
  grown = search pushes;
  front = search rules;
}

pub overflow_cast-note : goal.overflow_cast-note
overflow_cast-note c = search (arc_place, rules)

pub overflow_add-note : goal.overflow_add-note
overflow_add-note c = search (note_fits, rules)

pub bounds-notes-v : goal.bounds-notes-v
bounds-notes-v c = search (node_place, ready_reads)

pub returns-then-notes-v : goal.returns-then-notes-v
returns-then-notes-v c = record {
  labels = search (relax_same, eq-eqb, ready_reads);
  notes = search (note_same, eq-eqb, ready_reads);
  grown = search pushes;
  front = search rules;
}

pub bounds-notes-v-then-old-end-2 : goal.bounds-notes-v-then-old-end-2
bounds-notes-v-then-old-end-2 c = search (node_place, ready_reads)

pub returns-then-old-end-2 : goal.returns-then-old-end-2
returns-then-old-end-2 c = record {
  labels = search (relax_same, eq-eqb, ready_reads);
  notes = search (note_fewer, eq-eqb, ready_reads);
  grown = search pushes;
  front = search rules;
}

pub bounds-labels-v-2 : goal.bounds-labels-v-2
bounds-labels-v-2 c = search ready_reads

pub bounds-notes-v-2 : goal.bounds-notes-v-2
bounds-notes-v-2 c = search (node_place, ready_reads)

pub lower-requires : goal.lower-requires
lower-requires c =
    (search (pushes, ready_reads), search (node_place, ready_reads), search (end_small, eq-eqb))

pub returns-then-old-lt-NEVER : goal.returns-then-old-lt-NEVER
returns-then-old-lt-NEVER c = record {
  labels = search (relax_less, eq-eqb, ready_reads);
  notes = search (note_less, eq-eqb, ready_reads);
  grown = search (pushes, ready_reads);
  front = search (pushes, ready_reads);
}

pub add-requires : goal.add-requires
add-requires c =
    (search (pushes, ready_reads), search (node_place, ready_reads), search (end_small, eq-eqb))

pub returns : goal.returns
returns c = record {
  labels = search (relax_less, eq-eqb, ready_reads);
  notes = search (note_less, eq-eqb, ready_reads);
  grown = search (pushes, ready_reads);
  front = search (front_new, ready_reads);
}
