use Rattle.std.proofs.Common.{◌≡◌, ◌∙◌, sym, ap, inl, List, ℕ, take}
use Rattle.std.specs.Cmp.Lexicographic.{bytes_decides}
use Rattle.buck_label.specs.Labels.{printed, package_of, target_of, last_from}
use Rattle.buck_label.proofs.LabelLemmas.{parts_are, in_short_form, of_short_length, of_other_length}
use Rattle.buck_label.proofs.label.Label.is_written.Goals as goal

pub returns-then-eq : goal.returns-then-eq
returns-then-eq c =
    let i = c.self.invariant in
    let n = i.0 in
    let text = c.args.self.now in
    let bytes = c.args.bytes.now in
    let e : text ≡ printed n = sym c.self.view_is ∙ i.2 in
    let front : bytes ≡ take c.self.inside.colon text =
    (bytes_decides bytes _).0 (sym c.eq.ensures ∙ c.if-eq.true) ∙ ap (take c.self.inside.colon) (c.as_bytes-text.ensures ∙ c.self.view_is) in
    let home : c.package_bytes.result.now ≡ n.home = c.package_bytes.ensures.home ∙ ap package_of e ∙ (parts_are n i.1).0 in
    let last : c.last.result.now ≡ last_from n.home n.home = c.last.ensures ∙ ap (λ (h : List ℕ). last_from h h) home in
    let target : c.name.result.now ≡ n.target = c.name.ensures.name ∙ ap target_of e ∙ (parts_are n i.1).1 in (
      λ t. in_short_form text bytes c.self.inside.colon n i.1 e i.3 front (sym last ∙ (bytes_decides _ _).0 (sym c.eq-then-eq.ensures ∙ t) ∙ target),
      λ m. c.eq-then-eq.ensures ∙ (bytes_decides _ _).1 (last ∙ (of_short_length text bytes c.self.inside.colon n i.1 e i.3 c.if-bytes-self.true m).1 ∙ sym target),
    )

pub returns-else-eq : goal.returns-else-eq
returns-else-eq c =
    let i = c.self.invariant in
    let n = i.0 in
    let text = c.args.self.now in
    let bytes = c.args.bytes.now in
    let e : text ≡ printed n = sym c.self.view_is ∙ i.2 in (
      λ t. let f = c.if-eq.false in cc,
      λ m. c.eq.ensures ∙ (bytes_decides _ _).1
          ((of_short_length text bytes c.self.inside.colon n i.1 e i.3 c.if-bytes-self.true m).0 ∙ ap (take c.self.inside.colon) (sym (c.as_bytes-text.ensures ∙ c.self.view_is))),
    )

pub returns : goal.returns
returns c =
    let i = c.self.invariant in
    let n = i.0 in
    let text = c.args.self.now in
    let bytes = c.args.bytes.now in
    let e : text ≡ printed n = sym c.self.view_is ∙ i.2 in
    let same : c.as_bytes-text.result.now ≡ text = c.as_bytes-text.ensures ∙ c.self.view_is in (
      λ t. (n, inl record { text_is = (bytes_decides _ _).0 (sym c.eq-2.ensures ∙ t) ∙ same ∙ e; name = i.1 }, e),
      λ m. c.eq-2.ensures ∙ (bytes_decides _ _).1 (of_other_length text bytes c.self.inside.colon n i.1 e i.3 c.if-bytes-self.false m ∙ sym same),
    )
