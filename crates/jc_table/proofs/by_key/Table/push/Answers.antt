use Rattle.std.proofs.Common.{◌≡◌, OnErr, OnOk, Some, cond, nat_cmp, sym, ap, subst, ◌∙◌}
use Rattle.std.specs.BTreeMap.{insert_entry}
use Rattle.std.specs.Map.{values_of}
use Rattle.jc_log.specs.Tables.{Sets, at, puts}
use Rattle.jc_table.specs.Numbered.{AreNumbered}
use Rattle.jc_table.proofs.RowFacts.{back, pushed-numbered, pushed-rows, puts-sets}
use Rattle.jc_table.proofs.by_key.Table.push.Goals.{in-Ok, in-Err}
use Rattle.jc_table.proofs.by_key.Table.push.Goals as goal

pub invariant_of-self-in-Ok : goal.invariant_of-self-in-Ok
invariant_of-self-in-Ok g c =
    pushed-numbered g.K.PartialEq.eq c.self.inside.rows c.self.inside.numbers.entries c.self.inside.next c.self.invariant g.met.K.Eq.laws c.args.key c.args.value c.in-Some.next c.insert.new.self c.insert-2.new.self.entries
    (ap (λ rows. at g.K.PartialEq.eq rows c.args.key) c.self.view_is ∙ c.requires) c.in-Some.ensures.1
    (c.in_ok-insert.ensures.entries ∙ ap (λ key. insert_entry nat_cmp c.self.inside.rows c.self.inside.next (key, c.args.value)) c.in_ok-copy.ensures)
    c.in-Ok.ensures.updates.0

-- The row is taken out again.
pub invariant_of-self-in-Err : goal.invariant_of-self-in-Err
invariant_of-self-in-Err g c =
    subst (λ rows. AreNumbered g.K.PartialEq.eq rows c.insert-2.new.self.entries c.self.inside.next)
    (sym (back g.K.PartialEq.eq c.self.inside.rows c.self.inside.numbers.entries c.self.inside.next c.self.invariant (c.in_ok-copy.field-0, c.args.value) c.insert.new.self
    c.remove.new.self c.in_ok-insert.ensures.entries c.remove.ensures.entries))
    (subst (λ numbers. AreNumbered g.K.PartialEq.eq c.self.inside.rows numbers c.self.inside.next) (sym c.in-Err.ensures.err) c.self.invariant)

pub returns-clause-sets : goal.returns-clause-sets
returns-clause-sets g c =
    elim c.match-insert.branch [
      | in-Ok w ↦
          subst (λ r. OnOk r (Sets g.K.PartialEq.eq c.args.self.now c.match-insert.self c.args.key (Some c.args.value))) (sym w.result-is)
          (λ q.
          ap (λ rows. at g.K.PartialEq.eq rows q)
          (w.self-is ∙ pushed-rows g.K.PartialEq.eq c.self.inside.rows c.self.inside.numbers.entries c.self.inside.next c.self.invariant c.args.key c.args.value c.insert.new.self
          (ap (λ rows. at g.K.PartialEq.eq rows c.args.key) c.self.view_is ∙ c.requires)
          (c.in_ok-insert.ensures.entries ∙ ap (λ key. insert_entry nat_cmp c.self.inside.rows c.self.inside.next (key, c.args.value)) c.in_ok-copy.ensures))
          ∙ puts-sets g.K.PartialEq.eq g.met.K.Eq.laws c.args.key c.args.value (values_of c.self.inside.rows) q
          ∙ ap (λ rows. cond (g.K.PartialEq.eq c.args.key q) (Some c.args.value) (at g.K.PartialEq.eq rows q)) c.self.view_is)
      | in-Err w ↦ subst (λ r. OnOk r (Sets g.K.PartialEq.eq c.args.self.now c.match-insert.self c.args.key (Some c.args.value))) (sym w.result-is) tt
    ]

pub returns-clause-puts : goal.returns-clause-puts
returns-clause-puts g c =
    elim c.match-insert.branch [
      | in-Ok w ↦
          subst (λ r. OnOk r (c.match-insert.self ≡ puts g.K.PartialEq.eq c.args.self.now c.args.key c.args.value)) (sym w.result-is)
          (w.self-is ∙ pushed-rows g.K.PartialEq.eq c.self.inside.rows c.self.inside.numbers.entries c.self.inside.next c.self.invariant c.args.key c.args.value c.insert.new.self
          (ap (λ rows. at g.K.PartialEq.eq rows c.args.key) c.self.view_is ∙ c.requires)
          (c.in_ok-insert.ensures.entries ∙ ap (λ key. insert_entry nat_cmp c.self.inside.rows c.self.inside.next (key, c.args.value)) c.in_ok-copy.ensures)
          ∙ ap (λ rows. puts g.K.PartialEq.eq rows c.args.key c.args.value) c.self.view_is)
      | in-Err w ↦ subst (λ r. OnOk r (c.match-insert.self ≡ puts g.K.PartialEq.eq c.args.self.now c.args.key c.args.value)) (sym w.result-is) tt
    ]

pub returns-clause-kept : goal.returns-clause-kept
returns-clause-kept g c =
    elim c.match-insert.branch [
      | in-Ok w ↦ subst (λ r. OnErr r (c.match-insert.self ≡ c.args.self.now)) (sym w.result-is) tt
      | in-Err w ↦
          subst (λ r. OnErr r (c.match-insert.self ≡ c.args.self.now)) (sym w.result-is)
          (w.self-is
          ∙ ap values_of
          (back g.K.PartialEq.eq c.self.inside.rows c.self.inside.numbers.entries c.self.inside.next c.self.invariant (c.in_ok-copy.field-0, c.args.value) c.insert.new.self
          w.remove.new.self c.in_ok-insert.ensures.entries w.remove.ensures.entries)
          ∙ c.self.view_is)
    ]
