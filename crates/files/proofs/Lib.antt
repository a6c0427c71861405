mod Words
mod LongPlans
mod Reading
