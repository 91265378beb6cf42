mod ArgumentLemmas
mod CommandLemmas
mod RefusalLemmas
