-- Changes that can be set have no fault.
use Rattle.std.proofs.Common.{◌≡◌, List, Option, Some, None, Result, Ok, Err, refl, subst}
use Rattle.std.specs.Prelude.{IfErr, IfSome}
use Rattle.std.specs.List.{AllByRecursion}
use Rattle.dice_key.specs.Meaning.{Meaning}
use Rattle.dice_key.specs.declared.universe.Kind.TheVariants.{Injected}
use Rattle.dice_core.specs.Commits.{Fault, NotInjected, Twice, AreSettable, IsFirstFault}
use Rattle.lists.proofs.Distinct.{distinct_before}
use Rattle.lists.proofs.Each.{all_middle}
use Rattle.lists.specs.Lists.{AreDistinct}

module _ {K V : Type 0} (m : Meaning K V) where
  pub no_fault : (ks : List K) (f : Fault K) → AreSettable m ks → IsFirstFault m ks f → ⊥
  no_fault ks (NotInjected k) s h = h.fault (all_middle (λ q. m.kind q ≡ Injected) h.before h.later k (subst (AllByRecursion (λ q. m.kind q ≡ Injected)) h.all s.injected))
  no_fault ks (Twice k) s h = distinct_before h.before h.later k (subst AreDistinct h.all s.distinct) h.fault.1

-- if no fault is possible none is named
pub none_named : {T E F : Type 0} (r : Result T E) (f : E → Option F) (P : F → Type 0) → IfErr r (λ e. IfSome (f e) P) → ((x : F) → P x → ⊥) → IfErr r (λ e. f e ≡ None)
none_named (Ok t) f P h none = tt
none_named {T} {E} {F} (Err e) f P h none = by_name (f e) h
  where
    by_name : (o : Option F) → IfSome o P → o ≡ None
    by_name None i = refl
    by_name (Some x) i = absurd (none x i)
