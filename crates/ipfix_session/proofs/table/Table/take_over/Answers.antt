use Rattle.std.proofs.Common.{◌≡◌, false, cond, Option, None, sym, ◌∙◌, subst}
use Rattle.std.specs.Option.{option_or}
use Rattle.ipfix_template.specs.declared.template.Template.{Template}
use Rattle.std.specs.Ordering.{nat_cmp}
use Rattle.std.specs.BTreeSet.{contains}
use Rattle.ipfix_session.specs.TemplateMaps.{in_map}
use Rattle.ipfix_session.specs.Tables.{IsOneOfKind, template_after}
use Rattle.ipfix_session.proofs.TableSteps.{table-at, table-now, room_there, taken-value, taken_kinds}
use Rattle.ipfix_session.proofs.table.Table.take_over.Goals as goal

pub take_over-requires : goal.take_over-requires
take_over-requires c =
    let s = c.self.inside in
    let m = c.defined.inside in
    record { room = (room_there s.plain s.options m.plain m.options c.args.self.now c.args.defined c.self.view_is c.defined.view_is c.requires.room).plains }

pub take_over-requires-2 : goal.take_over-requires-2
take_over-requires-2 c =
    let s = c.self.inside in
    let m = c.defined.inside in
    record { room = (room_there s.plain s.options m.plain m.options c.args.self.now c.args.defined c.self.view_is c.defined.view_is c.requires.room).optional }

pub invariant_of-self : goal.invariant_of-self
invariant_of-self c = λ q.
    let s = c.self.inside in
    let m = c.defined.inside in
    let decided = contains nat_cmp c.args.decided.now q in
    let none : decided ≡ false → option_or (in_map m.plain q) (in_map m.options q) ≡ None = λ e. table-now m.plain m.options c.args.defined c.defined.view_is q ∙ c.requires.decided q e in
    subst (λ (p : Option Template). IsOneOfKind p (in_map c.take_over-2.new.self q)) (sym (c.take_over.ensures q))
    (subst (λ (o : Option Template). IsOneOfKind (cond c.args.plain_withdrawn (in_map m.plain q) (cond decided (in_map m.plain q) (in_map s.plain q))) o) (sym (c.take_over-2.ensures q))
    (taken_kinds decided c.args.plain_withdrawn c.args.options_withdrawn (in_map m.plain q) (in_map m.options q) (in_map s.plain q) (in_map s.options q) none (c.defined.invariant q) (c.self.invariant q)))

pub returns : goal.returns
returns c = λ q.
    let s = c.self.inside in
    let m = c.defined.inside in
    let decided = contains nat_cmp c.args.decided.now q in
    let new = table-now m.plain m.options c.args.defined c.defined.view_is q in
    table-at c.take_over.new.self c.take_over-2.new.self q
    ∙ (λ i. option_or (c.take_over.ensures q i) (c.take_over-2.ensures q i))
    ∙ taken-value decided c.args.plain_withdrawn c.args.options_withdrawn (in_map m.plain q) (in_map m.options q) (in_map s.plain q) (in_map s.options q) (λ e. new ∙ c.requires.decided q e) (c.self.invariant q)
    ∙ (λ i. template_after (new i) decided c.args.plain_withdrawn c.args.options_withdrawn (table-now s.plain s.options c.args.self.now c.self.view_is q i))
