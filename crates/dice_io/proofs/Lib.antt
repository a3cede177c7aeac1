mod StreamLemmas
