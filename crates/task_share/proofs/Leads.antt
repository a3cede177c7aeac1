-- Chains of asks.
use Rattle.std.proofs.Common.{◌≡◌, true}
use Rattle.task_share.specs.Asked.{Asked, By, Tasked, Leads, stays, asks_on}

module _ {K : Type 0} where
  -- a chain goes on by one more ask
  pub leads_more : (s : Asked K) (a b c : K) → Leads s a b → s.asks c (Tasked b) ≡ true → Leads s a c
  leads_more s a b c stays e = asks_on e stays
  leads_more s a b c (asks_on {i = i} d l) e = asks_on d (leads_more s i b c l e)

  -- one chain after another
  pub leads_after : (s : Asked K) (a b c : K) → Leads s a b → Leads s b c → Leads s a c
  leads_after s a b c stays m = m
  leads_after s a b c (asks_on {i = i} e l) m = asks_on e (leads_after s i b c l m)

  -- a chain over fewer asks is one over all
  pub leads_fewer : (s u : Asked K) → ((q : K) (a : By K) → u.asks q a ≡ true → s.asks q a ≡ true) → (a b : K) → Leads u a b → Leads s a b
  leads_fewer s u f a b stays = stays
  leads_fewer s u f a b (asks_on {i = i} e l) = asks_on (f i (Tasked a) e) (leads_fewer s u f i b l)
